use Rattle.std.proofs.Common.{inl, inr, refl}
use Rattle.std.proofs.lemmas.Result.{IfOk-weaker}
use Rattle.bq_policy_check.specs.Checking.{ChecksFile, ReportsVerdict}
use Rattle.bq_policy_check.proofs.checking.check_file.Goals as goal

pub returns-in-Ok : goal.returns-in-Ok
returns-in-Ok c =
    IfOk-weaker c.check_policy.result (ReportsVerdict c.args.words.now c.in-Ok.policy c.args.terms.now.limits)
    (ChecksFile c.args.words.now c.args.bytes.now c.args.terms.now.head c.args.terms.now.limits)
    (λ answer reports. inr record { policy = c.in-Ok.policy; is_policy = c.in-Ok.ensures.policy; reports = reports }) c.check_policy.ensures

pub returns-in_ok-refusal-in-Err : goal.returns-in_ok-refusal-in-Err
returns-in_ok-refusal-in-Err c = inl record {
  named = c.in-Err.fault;
  is_fault = c.in-Err.ensures.fault;
  other = c.in_ok-refusal-in-Err.ensures.other;
  text = c.in_ok-refusal-in-Err.field-0;
  is = refl;
  reported = c.in_ok-refusal-in-Err.ensures.reported;
  shown = c.in_ok-refusal-in-Err.ensures.shown;
}
