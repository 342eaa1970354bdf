use Rattle.std.proofs.Common.{ℕ, List, Option, String, Global, subst, sym}
use Rattle.bq_console.proofs.GivenLemmas.{none_given}
use Rattle.bq_policy_check.specs.Given.{option_bytes}
use Rattle.bq_policy_run.specs.Running.{IsTime, WritesTime}
use Rattle.bq_policy_run.proofs.named_inputs.time.Goals as goal

pub returns-in-None-clause-none : goal.returns-in-None-clause-none
returns-in-None-clause-none c = none_given (IsTime (option_bytes c.args.word.now)) c.refused.result (λ time is.
    let named = subst (λ (o : Option (String Global)). IsTime (option_bytes o) time) c.in-Some.is is in
    c.in-None.ensures.none time (subst (λ (w : List ℕ). WritesTime w time) (sym c.as_str.ensures.value) named))
