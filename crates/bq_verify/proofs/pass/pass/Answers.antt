use Rattle.std.proofs.Common.{◌+◌, rules, arith}
use Rattle.bq_verify.specs.Subjects.{subject_of_view}
use Rattle.bq_verify.specs.Control.{IsKnown}
use Rattle.bq_verify.specs.Refusals.{IsOutOfMemory}
use Rattle.bq_verify.proofs.SureLemmas.{straight_before}
use Rattle.bq_verify.proofs.PassLemmas.{rest_before, rest_at_end}
use Rattle.bq_verify.proofs.pass.pass.Goals as goal

pub loop-slot-preserved : goal.loop-slot-preserved
loop-slot-preserved c = record {
  long = search rules;
  rest = λ made rise rest.
      c.loop-slot.invariant.rest made rise
      (rest_before (subject_of_view c.args.subject.now) c.args.heights.now made c.requires.passable.sound c.requires.heights
      rise c.loop-slot.slot (IsKnown c.loop-slot.pending c.loop-slot.state c.loop-slot.live c.loop-slot.slot)
      (IsKnown c.pass_slot.new.pending c.pass_slot.new.state c.in_ok-live.live (c.loop-slot.slot + 1))
      c.in_ok-live.ensures.passes rest);
  sure = λ straight begins.
      c.in_ok-live.ensures.sure (straight_before (subject_of_view c.args.subject.now) (c.loop-slot.slot + 1) straight)
      (c.loop-slot.invariant.sure straight begins);
}

pub returns-clause-safe : goal.returns-clause-safe
returns-clause-safe c = λ made rise.
    c.loop-slot.invariant.rest made rise
    (rest_at_end (subject_of_view c.args.subject.now) c.args.heights.now made c.loop-slot.slot _ (omega arith))

pub returns-in_err-live-clause-accepts : goal.returns-in_err-live-clause-accepts
returns-in_err-live-clause-accepts c = λ straight begins.
    let memory : IsOutOfMemory c.in_err-live.field-0.0 =
    c.in_err-live.ensures.accepts (straight_before (subject_of_view c.args.subject.now) (c.loop-slot.slot + 1) straight)
    (c.loop-slot.invariant.sure straight begins) in
    search rules
