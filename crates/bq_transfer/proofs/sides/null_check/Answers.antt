use Rattle.std.proofs.Common.{refl}
use Rattle.std.proofs.lemmas.Bool.{false≢true}
use Rattle.bq_states.specs.declared.abstract_state.ValueKind.TheVariants.{Entry, Number}
use Rattle.bq_transfer.proofs.CertaintyLemmas.{entry_stands}
use Rattle.bq_transfer.proofs.ResultLemmas.{null_side, entry_side, equal_true, equal_false, unequal_true, unequal_false}
use Rattle.bq_states.proofs.WordLemmas.{word_fits}
use Rattle.bq_transfer.proofs.sides.null_check.Goals as goal

pub returns-in-W64-Equal-true-clause-fits : goal.returns-in-W64-Equal-true-clause-fits
returns-in-W64-Equal-true-clause-fits c = λ shapes a b p q h.
    null_side shapes c.args.right a b c.requires.right c.requires.null q
    (equal_true a b (word_fits _ _ a p) (word_fits _ _ b q)
    (rw (c.in-W64-Equal-true.is-0, c.in-W64-Equal-true.is-1, c.in-W64-Equal-true.is-2) at h))

pub returns-in-W64-Equal-false-clause-fits : goal.returns-in-W64-Equal-false-clause-fits
returns-in-W64-Equal-false-clause-fits c = λ shapes a b p q h.
    entry_side shapes c.args.map c.args.left c.args.right a b c.requires.left c.requires.whole
    c.requires.right c.requires.null p q
    (equal_false a b (word_fits _ _ a p) (word_fits _ _ b q)
    (rw (c.in-W64-Equal-false.is-0, c.in-W64-Equal-false.is-1, c.in-W64-Equal-false.is-2) at h))

pub returns-in-W64-NotEqual-true-clause-fits : goal.returns-in-W64-NotEqual-true-clause-fits
returns-in-W64-NotEqual-true-clause-fits c = λ shapes a b p q h.
    entry_side shapes c.args.map c.args.left c.args.right a b c.requires.left c.requires.whole
    c.requires.right c.requires.null p q
    (unequal_true a b (word_fits _ _ a p) (word_fits _ _ b q)
    (rw (c.in-W64-NotEqual-true.is-0, c.in-W64-NotEqual-true.is-1, c.in-W64-NotEqual-true.is-2) at h))

pub returns-in-W64-NotEqual-false-clause-fits : goal.returns-in-W64-NotEqual-false-clause-fits
returns-in-W64-NotEqual-false-clause-fits c = λ shapes a b p q h.
    null_side shapes c.args.right a b c.requires.right c.requires.null q
    (unequal_false a b (word_fits _ _ a p) (word_fits _ _ b q)
    (rw (c.in-W64-NotEqual-false.is-0, c.in-W64-NotEqual-false.is-1, c.in-W64-NotEqual-false.is-2) at h))

pub returns-in-W64-Equal-true-clause-tested : goal.returns-in-W64-Equal-true-clause-tested
returns-in-W64-Equal-true-clause-tested c = λ whole test zero. record {
  word = record { kind = Number; offset = c.args.right.offset };
  is = refl;
  entry = λ found. absurd (false≢true (rw (c.in-W64-Equal-true.is-1, c.in-W64-Equal-true.is-2) at found));
}

pub returns-in-W64-Equal-false-clause-tested : goal.returns-in-W64-Equal-false-clause-tested
returns-in-W64-Equal-false-clause-tested c = λ whole test zero. record {
  word = record { kind = Entry c.args.map; offset = c.args.left.offset };
  is = refl;
  entry = λ found. entry_stands c.args.map c.args.left.offset zero c.requires.whole;
}

pub returns-in-W64-NotEqual-true-clause-tested : goal.returns-in-W64-NotEqual-true-clause-tested
returns-in-W64-NotEqual-true-clause-tested c = λ whole test zero. record {
  word = record { kind = Entry c.args.map; offset = c.args.left.offset };
  is = refl;
  entry = λ found. entry_stands c.args.map c.args.left.offset zero c.requires.whole;
}

pub returns-in-W64-NotEqual-false-clause-tested : goal.returns-in-W64-NotEqual-false-clause-tested
returns-in-W64-NotEqual-false-clause-tested c = λ whole test zero. record {
  word = record { kind = Number; offset = c.args.right.offset };
  is = refl;
  entry = λ found. absurd (false≢true (rw (c.in-W64-NotEqual-false.is-1, c.in-W64-NotEqual-false.is-2) at found));
}
