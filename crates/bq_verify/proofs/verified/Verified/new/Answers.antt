use Rattle.std.proofs.Common.{refl}
use Rattle.std.proofs.lemmas.Result.{err_from_is_err_and}
use Rattle.bq_verify.specs.Subjects.{subject_of_slots}
use Rattle.bq_verify.proofs.VerdictLemmas.{accepted_program}
use Rattle.bq_verify.proofs.verified.Verified.new.Goals as goal

pub returns-in_err-judge-clause-stopped : goal.returns-in_err-judge-clause-stopped
returns-in_err-judge-clause-stopped c =
    let error = err_from_is_err_and c.from_residual.result c.from_residual.ensures.1 in
    rw (error.1, error.2)
    (rw (c.as_slice.ensures.value, c.as_slice-2.ensures.value, c.context_length.ensures) at c.in_err-judge.ensures.stopped)

pub returns-in_err-judge-clause-total_on_straight : goal.returns-in_err-judge-clause-total_on_straight
returns-in_err-judge-clause-total_on_straight c = λ straight.
    let error = err_from_is_err_and c.from_residual.result c.from_residual.ensures.1 in
    rw (error.1, error.2)
    (c.in_err-judge.ensures.accepts (rw (c.as_slice.ensures.value, c.as_slice-2.ensures.value, c.context_length.ensures) straight))

pub returns-in_err-code-clause-stopped : goal.returns-in_err-code-clause-stopped
returns-in_err-code-clause-stopped c =
    let error = err_from_is_err_and c.from_residual-in_err-code.result c.from_residual-in_err-code.ensures.1 in
    rw (error.1, error.2) tt

pub returns-in_err-code-clause-total_on_straight : goal.returns-in_err-code-clause-total_on_straight
returns-in_err-code-clause-total_on_straight c = λ straight.
    let error = err_from_is_err_and c.from_residual-in_err-code.result c.from_residual-in_err-code.ensures.1 in
    rw (error.1, error.2) refl

pub returns-clause-accepted : goal.returns-clause-accepted
returns-clause-accepted c =
    let passed = rw (c.as_slice.ensures.value, c.as_slice-2.ensures.value, c.context_length.ensures) at c.in_ok-judge.ensures.passed in
    let safe = rw (c.as_slice.ensures.value, c.as_slice-2.ensures.value, c.context_length.ensures) at c.in_ok-judge.ensures.safe in
    accepted_program (subject_of_slots c.args.slots.items c.args.form) _ c.requires.passable passed safe

pub returns-clause-total_on_straight : goal.returns-clause-total_on_straight
returns-clause-total_on_straight c = λ straight. tt

pub judge-requires-clause-passable : goal.judge-requires-clause-passable
judge-requires-clause-passable c = rw (c.as_slice.ensures.value, c.as_slice-2.ensures.value, c.context_length.ensures) c.requires.passable

pub judge-requires-clause-heights : goal.judge-requires-clause-heights
judge-requires-clause-heights c = rw c.as_slice.ensures.value c.requires.heights

pub judge-requires-clause-made : goal.judge-requires-clause-made
judge-requires-clause-made c = rw c.as_slice.ensures.value c.requires.made
