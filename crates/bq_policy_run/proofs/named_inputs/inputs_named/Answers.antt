use Rattle.std.proofs.lemmas.Result.{err_from_is_err_and}
use Rattle.bq_hooks.specs.Hooks.{context_length_of}
use Rattle.bq_policy_run.specs.declared.inputs.Inputs.{Inputs}
use Rattle.bq_policy_run.specs.Naming.{IsContextNamed}
use Rattle.bq_policy_run.specs.Running.{HasClock, HasInputs, SetsParts}
use Rattle.bq_policy_check.specs.Given.{option_bytes}
use Rattle.bq_policy_run.proofs.NamingLemmas.{parts_set}
use Rattle.bq_console.proofs.GivenLemmas.{none_of_part, none_whole}
use Rattle.bq_policy_run.proofs.named_inputs.inputs_named.Goals as goal

pub returns-in_err-env-clause-none : goal.returns-in_err-env-clause-none
returns-in_err-env-clause-none c =
    let error = err_from_is_err_and c.from_residual.result c.from_residual.ensures.1 in
    rw (error.1, error.2) (none_whole (HasClock c.args.words.now) (HasInputs c.args.words.now c.args.verified.now)
    (λ (i : Inputs). i.env) c.in_err-env.field-0.0 (λ i has. has.clock) c.in_err-env.ensures.none)

pub returns-in_err-inputs-clause-none : goal.returns-in_err-inputs-clause-none
returns-in_err-inputs-clause-none c =
    let error = err_from_is_err_and c.from_residual-in_err-inputs.result c.from_residual-in_err-inputs.ensures.1 in
    rw (error.1, error.2) (none_of_part
    (IsContextNamed (option_bytes c.args.words.now.context) (context_length_of c.args.verified.now.hook c.args.verified.now.version))
    (HasInputs c.args.words.now c.args.verified.now) c.in_err-inputs.field-0.0
    (λ i has. (has.context.first, has.context.begins)) c.in_err-inputs.ensures.refused)

pub returns-in_err-set_parts-clause-none : goal.returns-in_err-set_parts-clause-none
returns-in_err-set_parts-clause-none c =
    let error = err_from_is_err_and c.from_residual-in_err-set_parts.result c.from_residual-in_err-set_parts.ensures.1 in
    let before = c.in_ok-inputs.inputs in
    rw (error.1, error.2) (none_of_part (SetsParts c.args.words.now c.args.verified.now before)
    (HasInputs c.args.words.now c.args.verified.now) c.in_err-set_parts.field-0.0
    (λ i has.
    parts_set c.args.words.now c.args.verified.now before i c.in_ok-inputs.ensures.context
    c.in_ok-inputs.ensures.maps.shapes_are c.in_ok-inputs.ensures.board has) c.in_err-set_parts.ensures.refused)
