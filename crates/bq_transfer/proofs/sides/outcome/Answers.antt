use Rattle.std.proofs.Common.{pos, ◌≡◌, ℕ, refl, subst, arith, rules}
use Rattle.bq_insn.specs.declared.Source.TheVariants.{Imm}
use Rattle.bq_states.specs.declared.abstract_state.ValueKind.TheVariants.{Number}
use Rattle.bq_states.proofs.WordLemmas.{describes_number, number_within}
use Rattle.bq_transfer.proofs.ResultLemmas.{number_or_null, entry_or_null, same_map}
use Rattle.bq_transfer.specs.Sides.{IsComparableAndTested, is_found}
use Rattle.bq_transfer.proofs.sides.outcome.Goals as goal

pub null_check-requires-clause-null : goal.null_check-requires-clause-null
null_check-requires-clause-null c =
    let zero : c.args.src ≡ Imm (pos 0) = search rules in
    (c.requires (pos 0) zero).2

pub returns-in_default-2 : goal.returns-in_default-2
returns-in_default-2 c = record {
  compared = tt;
  fits = tt;
  numbers = λ left right. c.in_default.not-Number-1 right;
  tested = λ map check answer. c.in_default.not-Number-1 (c.requires (pos 0) check.with_zero).0;
}

pub returns-in-Some-clause-fits : goal.returns-in-Some-clause-fits
returns-in-Some-clause-fits c = λ shapes a b p q h.
    let left : c.args.left.kind ≡ Number = search rules in
    let right : c.args.right.kind ≡ Number = search rules in
    describes_number shapes c.in-Some.offset a
    (rw c.in-Some.is at
    (c.narrow.ensures.holds a b (number_within shapes c.args.left a left p) (number_within shapes c.args.right b right q) h))

pub returns-in-None-clause-fits : goal.returns-in-None-clause-fits
returns-in-None-clause-fits c = λ shapes a b p q h.
    let left : c.args.left.kind ≡ Number = search rules in
    let right : c.args.right.kind ≡ Number = search rules in
    rw c.in-None.is at
    (c.narrow.ensures.holds a b (number_within shapes c.args.left a left p) (number_within shapes c.args.right b right q) h)

pub returns-then-left-gt0-clause-numbers : goal.returns-then-left-gt0-clause-numbers
returns-then-left-gt0-clause-numbers c =
    λ left right. number_or_null c.args.left.kind c.in-EntryOrNull-Number.map left c.in-EntryOrNull-Number.is-0

pub returns-in-Some-clause-numbers : goal.returns-in-Some-clause-numbers
returns-in-Some-clause-numbers c = λ left right. refl

pub returns-in-None-clause-tested : goal.returns-in-None-clause-tested
returns-in-None-clause-tested c = λ map check answer. absurd (number_or_null c.args.left.kind map c.in-Number-Number.is-0 answer.0)

pub returns-else-ne-clause-tested : goal.returns-else-ne-clause-tested
returns-else-ne-clause-tested c = λ map check answer.
    let same = same_map c.args.left.kind c.in-EntryOrNull-Number.map map c.in-EntryOrNull-Number.is-0 answer.0 in
    subst (λ (m : ℕ). IsComparableAndTested m (is_found c.args.cond c.args.goes) c.null_check.result) same
    (c.null_check.ensures.tested check.whole check.of_null answer.2)

pub returns-in-Entry-Number-clause-tested : goal.returns-in-Entry-Number-clause-tested
returns-in-Entry-Number-clause-tested c =
    λ map check answer.
    absurd (entry_or_null c.args.left.kind c.in-Entry-Number.field-0-0 map c.in-Entry-Number.is-0 answer.0)

pub returns-in_default : goal.returns-in_default
returns-in_default c = record {
  compared = tt;
  fits = tt;
  numbers = λ left right. c.in_default.not-Number-1 right;
  tested = λ map check answer. c.in_default.not-Number-1 (c.requires (pos 0) check.with_zero).0;
}

pub returns-in_default-3 : goal.returns-in_default-3
returns-in_default-3 c = record {
  compared = tt;
  fits = tt;
  numbers = λ left right. c.in_default.not-Number-1 right;
  tested = λ map check answer. c.in_default.not-Number-1 (c.requires (pos 0) check.with_zero).0;
}

pub returns-in_default-4-clause-tested : goal.returns-in_default-4-clause-tested
returns-in_default-4-clause-tested c = λ map check answer. c.in_default.not-EntryOrNull-0 map answer.0

pub null_check-requires-clause-whole : goal.null_check-requires-clause-whole
null_check-requires-clause-whole c = omega arith
