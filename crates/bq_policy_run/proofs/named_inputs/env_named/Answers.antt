use Rattle.std.proofs.Common.{◌^◌}
use Rattle.std.proofs.lemmas.Result.{err_from_is_err_and}
use Rattle.bq_bpf.specs.declared.runs.Env.{Env}
use Rattle.bq_policy_run.specs.Running.{HasClock, IsNumberOrZero, IsTime}
use Rattle.bq_policy_check.specs.Given.{option_bytes}
use Rattle.bq_console.proofs.GivenLemmas.{none_whole}
use Rattle.bq_policy_run.proofs.named_inputs.env_named.Goals as goal

pub returns-in_err-now-clause-none : goal.returns-in_err-now-clause-none
returns-in_err-now-clause-none c =
    let error = err_from_is_err_and c.from_residual.result c.from_residual.ensures.1 in
    rw (error.1, error.2) (none_whole (IsTime (option_bytes c.args.words.now.time)) (HasClock c.args.words.now)
    (λ (e : Env). e.now) c.in_err-now.field-0.0 (λ e has. has.now) c.in_err-now.ensures.none)

pub returns-in_err-processor-clause-none : goal.returns-in_err-processor-clause-none
returns-in_err-processor-clause-none c =
    let error = err_from_is_err_and c.from_residual-in_err-processor.result c.from_residual-in_err-processor.ensures.1 in
    rw (error.1, error.2) (none_whole (IsNumberOrZero (2 ^ 32) (option_bytes c.args.words.now.processor))
    (HasClock c.args.words.now) (λ (e : Env). e.processor) c.in_err-processor.field-0.0
    (λ e has. has.processor) c.in_err-processor.ensures.none)
