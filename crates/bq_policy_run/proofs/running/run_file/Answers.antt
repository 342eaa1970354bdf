use Rattle.std.proofs.Common.{inl, inr, refl}
use Rattle.std.proofs.lemmas.Result.{IfOk-weaker}
use Rattle.bq_policy_run.specs.Running.{RunsFile, RunsPolicy}
use Rattle.bq_policy_run.proofs.running.run_file.Goals as goal

pub returns-in-Ok : goal.returns-in-Ok
returns-in-Ok g c =
    IfOk-weaker c.run_policy.result (RunsPolicy c.args.words.now c.in-Ok.policy)
    (RunsFile c.args.words.now c.args.bytes.now c.args.head.now)
    (λ answer runs. inr (c.in-Ok.policy, c.in-Ok.ensures.policy, runs)) c.run_policy.ensures

pub returns-in_ok-text-in-Err : goal.returns-in_ok-text-in-Err
returns-in_ok-text-in-Err g c = inl record {
  named = c.in-Err.fault;
  is_fault = c.in-Err.ensures.fault;
  other = c.in_ok-text-in-Err.ensures.other;
  text = c.in_ok-text-in-Err.text;
  is = refl;
  refuses = c.in_ok-text-in-Err.ensures.line;
}
