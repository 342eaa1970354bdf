use Rattle.bq_policy_run.proofs.PlaceLawLemmas.{place_is_rules, place_permitted, preempt_is_rules}
use Rattle.bq_policy_run.proofs.PullLawLemmas.{pull_is_rules, not_shown}
use Rattle.bq_policy_run.proofs.laws.words_are_the_rules.Goals as goal

pub returns : goal.returns
returns c = record {
  place = place_is_rules;
  place_permitted = place_permitted;
  preempt = λ f r0. preempt_is_rules r0;
  pull = pull_is_rules;
  not_shown = not_shown;
}
