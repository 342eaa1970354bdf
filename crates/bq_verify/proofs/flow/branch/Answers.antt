use Rattle.std.proofs.Common.{◌≡◌, Option, Some, true, false, inl, inr, subst, sym, arith}
use Rattle.std.proofs.lemmas.Bool.{false≢true}
use Rattle.std.proofs.lemmas.Result.{err_from_is_err_and}
use Rattle.bq_states.specs.declared.abstract_state.ValueKind.TheVariants.{EntryOrNull, Number}
use Rattle.bq_states.specs.declared.abstract_state.AbstractValue.{AbstractValue}
use Rattle.bq_states.specs.Certainty.{Pointer, Scalar, CertaintyHolds}
use Rattle.bq_transfer.specs.Sides.{is_found}
use Rattle.bq_verify.proofs.SideLemmas.{known_inside, has_on_side, has_on_tested}
use Rattle.bq_verify.specs.Control.{IsKnown}
use Rattle.bq_verify.proofs.PassLemmas.{parts_of}
use Rattle.bq_verify.proofs.flow.branch.Goals as goal

pub returns-clause-parts : goal.returns-clause-parts
returns-clause-parts c = λ f s shapes contains.
    let operand = c.in-Some.ensures.finds f s contains in
    parts_of f s c.args.state.now c.args.test.width c.args.test.cond c.args.test.dst c.args.test.src c.args.to c.args.next
    (IsKnown c.wait_on_side.new.pending c.keep_on_side.new.state c.keep_on_side.result c.args.next) c.in-Some-known.left
    c.in-Some.right c.in_ok-yes.yes c.in_ok-no.no c.right_side.result c.right_side-2.result c.in-Some-known.ensures operand.0
    operand.1 operand.2 c.in_ok-yes.ensures.fits c.in_ok-no.ensures.fits c.right_side.ensures c.right_side-2.ensures
    (λ t at side. inl (c.in_ok-wait_on_side.ensures.added f t shapes at (rw c.relation.ensures side)))
    (λ t at side. let on = c.keep_on_side.ensures.contains f t (rw c.relation-2.ensures side) in inr (on.0, at, on.1)) contains

pub returns-clause-number_test_known : goal.returns-clause-number_test_known
returns-clause-number_test_known c = λ scalar operand x k waits yes_side no_side.
    let there = known_inside c.args.state.now.registers c.args.test.dst c.in-Some-known.left c.in-Some-known.ensures in
    let left : c.in-Some-known.left.kind ≡ Number =
    subst (λ (v : Option AbstractValue). CertaintyHolds Scalar v) (sym c.in-Some-known.ensures) scalar in
    let right : c.in-Some.right.kind ≡ Number = c.in-Some.ensures.scalar operand in
    record {
      waiting =
          c.in_ok-wait_on_side.ensures.has x k waits (λ same.
          let so = yes_side same in
          has_on_side x c.args.state.now c.args.test.dst c.in_ok-yes.yes there so.0 so.1 scalar
          (c.in_ok-yes.ensures.number left right) so.2);
      transferred = λ live same.
          let so = no_side same in
          c.keep_on_side.ensures.has x (has_on_side x c.args.state.now c.args.test.dst c.in_ok-no.no there so.0 so.1 scalar
          (c.in_ok-no.ensures.number left right) so.2) live;
    }

pub returns-clause-null_check_known : goal.returns-clause-null_check_known
returns-clause-null_check_known c = λ map tested x k waits yes_side no_side.
    let there = known_inside c.args.state.now.registers c.args.test.dst c.in-Some-known.left c.in-Some-known.ensures in
    let left : CertaintyHolds (Pointer (EntryOrNull map) 0) (Some c.in-Some-known.left) =
    subst (λ (v : Option AbstractValue). CertaintyHolds (Pointer (EntryOrNull map) 0) v)
    (sym c.in-Some-known.ensures) tested.1 in
    record {
      waiting =
          c.in_ok-wait_on_side.ensures.has x k waits (λ same.
          has_on_tested x c.args.state.now c.args.test.dst map (is_found c.args.test.cond true) c.in_ok-yes.yes there
          (c.in_ok-yes.ensures.tested map tested.0 left) (yes_side same));
      transferred = λ live same.
          c.keep_on_side.ensures.has x (has_on_tested x c.args.state.now c.args.test.dst map (is_found c.args.test.cond false)
          c.in_ok-no.no there (c.in_ok-no.ensures.tested map tested.0 left) (no_side same)) live;
    }

pub returns-in_default-clause-number_test_accepted : goal.returns-in_default-clause-number_test_accepted
returns-in_default-clause-number_test_accepted c = λ below scalar operand. absurd (c.in_default.ensures.scalar operand)

pub returns-in_default-known-clause-number_test_accepted : goal.returns-in_default-known-clause-number_test_accepted
returns-in_default-known-clause-number_test_accepted c = λ below scalar operand.
    absurd (subst (λ (v : Option AbstractValue). CertaintyHolds Scalar v) (sym c.in_default-known.ensures) scalar)

pub returns-then-test-ge-FRAME_REGISTER-clause-number_test_accepted : goal.returns-then-test-ge-FRAME_REGISTER-clause-number_test_accepted
returns-then-test-ge-FRAME_REGISTER-clause-number_test_accepted c = λ below scalar operand. absurd (omega arith)

pub returns-in_err-yes-clause-number_test_accepted : goal.returns-in_err-yes-clause-number_test_accepted
returns-in_err-yes-clause-number_test_accepted c = λ below scalar operand.
    let left : c.in-Some-known.left.kind ≡ Number =
    subst (λ (v : Option AbstractValue). CertaintyHolds Scalar v) (sym c.in-Some-known.ensures) scalar in
    absurd (false≢true (c.in_err-yes.ensures.accepts left (c.in-Some.ensures.scalar operand)))

pub returns-in_err-yes-clause-null_check_accepted : goal.returns-in_err-yes-clause-null_check_accepted
returns-in_err-yes-clause-null_check_accepted c = λ map below tested.
    let left : CertaintyHolds (Pointer (EntryOrNull map) 0) (Some c.in-Some-known.left) =
    subst (λ (v : Option AbstractValue). CertaintyHolds (Pointer (EntryOrNull map) 0) v)
    (sym c.in-Some-known.ensures) tested.1 in
    absurd (false≢true (c.in_err-yes.ensures.checks map tested.0 left))

pub returns-in_err-yes-clause-obligations : goal.returns-in_err-yes-clause-obligations
returns-in_err-yes-clause-obligations c =
    let error = err_from_is_err_and c.from_residual.result c.from_residual.ensures.1 in
    rw (error.1, error.2) (λ insn reads uses. c.in_err-yes.ensures.obligations insn uses)

pub returns-in_err-no-clause-number_test_accepted : goal.returns-in_err-no-clause-number_test_accepted
returns-in_err-no-clause-number_test_accepted c = λ below scalar operand.
    let left : c.in-Some-known.left.kind ≡ Number =
    subst (λ (v : Option AbstractValue). CertaintyHolds Scalar v) (sym c.in-Some-known.ensures) scalar in
    absurd (false≢true (c.in_err-no.ensures.accepts left (c.in-Some.ensures.scalar operand)))

pub returns-in_err-no-clause-null_check_accepted : goal.returns-in_err-no-clause-null_check_accepted
returns-in_err-no-clause-null_check_accepted c = λ map below tested.
    let left : CertaintyHolds (Pointer (EntryOrNull map) 0) (Some c.in-Some-known.left) =
    subst (λ (v : Option AbstractValue). CertaintyHolds (Pointer (EntryOrNull map) 0) v)
    (sym c.in-Some-known.ensures) tested.1 in
    absurd (false≢true (c.in_err-no.ensures.checks map tested.0 left))

pub returns-in_err-no-clause-obligations : goal.returns-in_err-no-clause-obligations
returns-in_err-no-clause-obligations c =
    let error = err_from_is_err_and c.from_residual-in_err-no.result c.from_residual-in_err-no.ensures.1 in
    rw (error.1, error.2) (λ insn reads uses. c.in_err-no.ensures.obligations insn uses)

pub returns-in_err-wait_on_side-clause-obligations : goal.returns-in_err-wait_on_side-clause-obligations
returns-in_err-wait_on_side-clause-obligations c =
    let error = err_from_is_err_and c.from_residual-in_err-wait_on_side.result c.from_residual-in_err-wait_on_side.ensures.1 in
    rw (error.1, error.2) (λ insn reads uses. tt)

pub returns-in_default-known-clause-null_check_accepted : goal.returns-in_default-known-clause-null_check_accepted
returns-in_default-known-clause-null_check_accepted c = λ map below tested.
    absurd (subst (λ (v : Option AbstractValue). CertaintyHolds (Pointer (EntryOrNull map) 0) v) (sym c.in_default-known.ensures) tested.1)
