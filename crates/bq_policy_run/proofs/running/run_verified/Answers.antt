use Rattle.std.proofs.Common.{inl, inr, refl}
use Rattle.std.specs.Prelude.{is_some}
use Rattle.std.proofs.lemmas.Result.{IfOk-weaker}
use Rattle.bq_policy_run.specs.Running.{HasInputs, HasRun, IsCountBeforeLast, RunsProgram}
use Rattle.bq_policy_check.specs.Given.{option_bytes}
use Rattle.bq_policy_run.proofs.NamingLemmas.{named_fits}
use Rattle.bq_console.proofs.GivenLemmas.{gives_none}
use Rattle.bq_policy_run.proofs.running.run_verified.Goals as goal

pub returns-in-Err-Words : goal.returns-in-Err-Words
returns-in-Err-Words g c = inl (
  (_, refl),
  gives_none (IsCountBeforeLast (option_bytes c.args.words.now.report.repeat)) _ _ c.in-Err-Words.field-0-is
      c.in-Err-Words.ensures.none,
)

pub returns-in-Ok-timed_inputs : goal.returns-in-Ok-timed_inputs
returns-in-Ok-timed_inputs g c =
    IfOk-weaker c.run_on.result (HasRun c.args.words.now.report.is_traced (is_some c.args.words.now.report.repeat)
    c.in-Ok.before c.args.verified.now c.in-Ok-timed_inputs.inputs) (RunsProgram c.args.words.now c.args.verified.now)
    (λ answer ran.
    inr (c.in-Ok.before, c.in-Ok.ensures.before, inr (c.in-Ok-timed_inputs.inputs, c.in-Ok-timed_inputs.ensures.names, ran)))
    c.run_on.ensures

pub returns-in-Err-Words-timed_inputs : goal.returns-in-Err-Words-timed_inputs
returns-in-Err-Words-timed_inputs g c = inr (
  c.in-Ok.before,
  c.in-Ok.ensures.before,
  inl (
    (_, refl),
    gives_none (HasInputs c.args.words.now c.args.verified.now) _ _ c.in-Err-Words-timed_inputs.field-0-is
        c.in-Err-Words-timed_inputs.ensures.none,
  ),
)

pub run_on-requires-clause-fits : goal.run_on-requires-clause-fits
run_on-requires-clause-fits g c =
    named_fits c.args.words.now c.args.verified.now c.in-Ok-timed_inputs.inputs c.in-Ok-timed_inputs.ensures.names
