use Rattle.std.proofs.lemmas.Result.{err_from_is_err_and}
use Rattle.bq_explain.specs.declared.limits.Limits.{Limits}
use Rattle.bq_policy_file.specs.declared.head.Head.{Head}
use Rattle.bq_policy_check.specs.Checking.{GivesTerms}
use Rattle.bq_policy_check.specs.Limiting.{HasLimits}
use Rattle.bq_policy_check.specs.Given.{GivesHead}
use Rattle.bq_console.proofs.GivenLemmas.{none_whole}
use Rattle.bq_policy_check.proofs.checking.terms_of.Goals as goal

pub returns-in_err-head-clause-none : goal.returns-in_err-head-clause-none
returns-in_err-head-clause-none c =
    let error = err_from_is_err_and c.from_residual.result c.from_residual.ensures.1 in
    rw (error.1, error.2) (none_whole (GivesHead c.args.words.now.policy) (GivesTerms c.args.words.now)
    (λ (terms : Head × Limits). terms.0) c.in_err-head.field-0.0 (λ terms gives. gives.head) c.in_err-head.ensures.none)

pub returns-in_err-limits-clause-none : goal.returns-in_err-limits-clause-none
returns-in_err-limits-clause-none c =
    let error = err_from_is_err_and c.from_residual-in_err-limits.result c.from_residual-in_err-limits.ensures.1 in
    rw (error.1, error.2) (none_whole (HasLimits c.args.words.now.limits) (GivesTerms c.args.words.now)
    (λ (terms : Head × Limits). terms.1) c.in_err-limits.field-0.0 (λ terms gives. gives.limits) c.in_err-limits.ensures.none)
