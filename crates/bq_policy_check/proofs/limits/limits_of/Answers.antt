use Rattle.std.proofs.lemmas.Result.{err_from_is_err_and}
use Rattle.bq_explain.specs.declared.limits.Limits.{Limits}
use Rattle.bq_policy_check.specs.Limiting.{HasLimits, IsMost, NamesHelpers, NamesHooks}
use Rattle.bq_policy_check.specs.Given.{option_bytes}
use Rattle.bq_console.specs.Words.{GivesWord}
use Rattle.bq_console.proofs.GivenLemmas.{none_whole}
use Rattle.bq_policy_check.proofs.limits.limits_of.Goals as goal

pub returns-in_err-steps-clause-none : goal.returns-in_err-steps-clause-none
returns-in_err-steps-clause-none c =
    let error = err_from_is_err_and c.from_residual.result c.from_residual.ensures.1 in
    rw (error.1, error.2) (none_whole (GivesWord IsMost (option_bytes c.args.words.now.steps)) (HasLimits c.args.words.now)
    (λ (l : Limits). l.steps) c.in_err-steps.field-0.0 (λ l has. has.steps) c.in_err-steps.ensures.none)

pub returns-in_err-helpers-clause-none : goal.returns-in_err-helpers-clause-none
returns-in_err-helpers-clause-none c =
    let error = err_from_is_err_and c.from_residual-in_err-helpers.result c.from_residual-in_err-helpers.ensures.1 in
    rw (error.1, error.2) (none_whole (GivesWord NamesHelpers (option_bytes c.args.words.now.helpers))
    (HasLimits c.args.words.now) (λ (l : Limits). l.helpers) c.in_err-helpers.field-0.0
    (λ l has. has.helpers) c.in_err-helpers.ensures.none)

pub returns-in_err-hooks-clause-none : goal.returns-in_err-hooks-clause-none
returns-in_err-hooks-clause-none c =
    let error = err_from_is_err_and c.from_residual-in_err-hooks.result c.from_residual-in_err-hooks.ensures.1 in
    rw (error.1, error.2) (none_whole (GivesWord NamesHooks (option_bytes c.args.words.now.hooks))
    (HasLimits c.args.words.now) (λ (l : Limits). l.hooks) c.in_err-hooks.field-0.0
    (λ l has. has.hooks) c.in_err-hooks.ensures.none)

pub returns-in_err-maps-clause-none : goal.returns-in_err-maps-clause-none
returns-in_err-maps-clause-none c =
    let error = err_from_is_err_and c.from_residual-in_err-maps.result c.from_residual-in_err-maps.ensures.1 in
    rw (error.1, error.2) (none_whole (GivesWord IsMost (option_bytes c.args.words.now.maps)) (HasLimits c.args.words.now)
    (λ (l : Limits). l.maps) c.in_err-maps.field-0.0 (λ l has. has.maps) c.in_err-maps.ensures.none)

pub returns-in_err-map_bytes-clause-none : goal.returns-in_err-map_bytes-clause-none
returns-in_err-map_bytes-clause-none c =
    let error = err_from_is_err_and c.from_residual-in_err-map_bytes.result c.from_residual-in_err-map_bytes.ensures.1 in
    rw (error.1, error.2) (none_whole (GivesWord IsMost (option_bytes c.args.words.now.map_bytes))
    (HasLimits c.args.words.now) (λ (l : Limits). l.map_bytes) c.in_err-map_bytes.field-0.0
    (λ l has. has.map_bytes) c.in_err-map_bytes.ensures.none)

pub returns-in_err-counters-clause-none : goal.returns-in_err-counters-clause-none
returns-in_err-counters-clause-none c =
    let error = err_from_is_err_and c.from_residual-in_err-counters.result c.from_residual-in_err-counters.ensures.1 in
    rw (error.1, error.2) (none_whole (GivesWord IsMost (option_bytes c.args.words.now.counters)) (HasLimits c.args.words.now)
    (λ (l : Limits). l.counters) c.in_err-counters.field-0.0 (λ l has. has.counters) c.in_err-counters.ensures.none)
