use Rattle.std.proofs.Common.{◌∙◌, ap, inl, inr, refl}
use Rattle.std.proofs.lemmas.Result.{IfErr-at_err, IfOk-weaker}
use Rattle.bq_verify.specs.Refusals.{IsOutOfMemory}
use Rattle.bq_insn.specs.Slots.{spread}
use Rattle.bq_policy_run.specs.Running.{IsProgramOf, RunsPolicy, RunsProgram}
use Rattle.bq_verify.specs.Subjects.{subject_of_program}
use Rattle.bq_explain.proofs.VerdictLemmas.{accepted_policy, refused_policy}
use Rattle.bq_policy_run.proofs.AcceptedLemmas.{runs_accepted}
use Rattle.bq_policy_run.proofs.running.run_policy.Goals as goal

pub returns-in-Ok : goal.returns-in-Ok
returns-in-Ok g c =
    let of : IsProgramOf c.args.policy.now c.in-Ok.verified = record {
      slots = c.in-Ok.ensures.slots ∙ ap spread c.in_ok-program.ensures.insns;
      shapes = c.in-Ok.ensures.shapes ∙ c.in_ok-program.ensures.shapes;
      hook = c.in-Ok.ensures.hook ∙ c.in_ok-program.ensures.hook;
      version = c.in-Ok.ensures.version ∙ c.in_ok-program.ensures.version;
    } in
    let accepted =
    accepted_policy c.args.policy.now c.in-Ok.verified of.slots of.shapes of.hook of.version c.in-Ok.ensures.faultless
    c.in-Ok.ensures.accepted c.in-Ok.ensures.budget in
    IfOk-weaker c.run_verified.result (RunsProgram c.args.words.now c.in-Ok.verified) (RunsPolicy c.args.words.now c.args.policy.now)
    (λ answer runs. inr (runs_accepted c.args.words.now c.args.policy.now c.in-Ok.verified answer of accepted runs)) c.run_verified.ensures

pub returns-in_ok-text-in-Err-At : goal.returns-in_ok-text-in-Err-At
returns-in_ok-text-in-Err-At g c =
    inl record {
      slot = c.in-Err-At.slot;
      cause = c.in-Err-At.cause;
      refusal =
          refused_policy c.args.policy.now (subject_of_program c.in_ok-program.program)
          c.in-Err-At.field-0 c.in-Err-At.slot c.in-Err-At.cause c.in_ok-program.ensures.judged
          c.in-Err-At.field-0-is (IfErr-at_err _ c.in-Err-At.is c.verify.ensures.refused)
          (λ straight. IfErr-at_err IsOutOfMemory c.in-Err-At.is (c.verify.ensures.total_on_straight straight));
      text = c.in_ok-text-in-Err-At.text;
      is = refl;
      reported = c.in_ok-text-in-Err-At.ensures;
    }
