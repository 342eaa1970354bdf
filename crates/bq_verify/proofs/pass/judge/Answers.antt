use Rattle.std.proofs.Common.{◌≡◌, ℕ, None, rules}
use Rattle.std.specs.Prelude.{slice_index_or}
use Rattle.bq_verify.specs.Subjects.{subject_of_view}
use Rattle.bq_verify.specs.Refusals.{IsOutOfMemory, stopped_nowhere}
use Rattle.bq_verify.proofs.PassLemmas.{safe_from_start}
use Rattle.bq_verify.proofs.SureLemmas.{sure_start}
use Rattle.bq_verify.proofs.pass.judge.Goals as goal

pub returns-clause-safe : goal.returns-clause-safe
returns-clause-safe c =
    let made = c.requires.made in
    safe_from_start (subject_of_view c.args.subject.now) c.args.heights.now made.0 c.as_mut_slice.result.now c.start-state.result
    c.requires.passable.small c.requires.passable.first c.start-state.ensures.contains (c.in_ok-pass.ensures.safe made.0 made.1)

pub returns-clause-passed : goal.returns-clause-passed
returns-clause-passed c =
    let made = c.requires.made in
    stopped_nowhere (subject_of_view c.args.subject.now) _
    (safe_from_start (subject_of_view c.args.subject.now) c.args.heights.now made.0 c.as_mut_slice.result.now c.start-state.result
    c.requires.passable.small c.requires.passable.first c.start-state.ensures.contains (c.in_ok-pass.ensures.safe made.0 made.1))

pub returns-in_err-pass-clause-accepts : goal.returns-in_err-pass-clause-accepts
returns-in_err-pass-clause-accepts c = λ straight.
    let blank : (k : ℕ) → slice_index_or c.as_mut_slice.result.now k None ≡ None = search rules in
    let memory : IsOutOfMemory c.in_err-pass.field-0.0 =
    c.in_err-pass.ensures.accepts straight
    (sure_start c.args.subject.now.slots.now c.as_mut_slice.result.now c.start-state.result c.requires.passable.sound blank
    c.start-state.ensures.context c.start-state.ensures.frame c.start-state.ensures.plain) in
    search rules
