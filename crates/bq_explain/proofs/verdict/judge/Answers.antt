use Rattle.std.proofs.Common.{◌∙◌, ap}
use Rattle.std.proofs.lemmas.Result.{IfErr-at_err}
use Rattle.bq_insn.specs.Slots.{spread}
use Rattle.bq_verify.specs.Refusals.{IsOutOfMemory}
use Rattle.bq_verify.specs.Subjects.{subject_of_program}
use Rattle.bq_explain.proofs.VerdictLemmas.{accepted_policy, refused_policy}
use Rattle.bq_explain.proofs.verdict.judge.Goals as goal

pub limited-requires : goal.limited-requires
limited-requires c =
    let program = c.in_ok-program.ensures in
    rw c.budget.ensures (accepted_policy c.args.policy.now c.in-Ok.verified (c.in-Ok.ensures.slots ∙ ap spread program.insns)
    (c.in-Ok.ensures.shapes ∙ program.shapes) (c.in-Ok.ensures.hook ∙ program.hook)
    (c.in-Ok.ensures.version ∙ program.version) c.in-Ok.ensures.faultless c.in-Ok.ensures.accepted c.in-Ok.ensures.budget)

pub returns-in-Err-At : goal.returns-in-Err-At
returns-in-Err-At c =
    refused_policy c.args.policy.now (subject_of_program c.in_ok-program.program)
    c.in-Err-At.field-0 c.in-Err-At.slot c.in-Err-At.cause c.in_ok-program.ensures.judged
    c.in-Err-At.field-0-is (IfErr-at_err _ c.in-Err-At.is c.verify.ensures.refused)
    (λ straight. IfErr-at_err IsOutOfMemory c.in-Err-At.is (c.verify.ensures.total_on_straight straight))
