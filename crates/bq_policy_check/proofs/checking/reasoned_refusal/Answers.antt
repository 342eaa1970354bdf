use Rattle.std.proofs.Common.{◌∙◌, ◌++◌, ap}
use Rattle.bq_policy_check.proofs.checking.reasoned_refusal.Goals as goal

pub reason_json-requires : goal.reason_json-requires
reason_json-requires c = (
  c.in_ok-text.ensures.0,
  c.as_str.ensures.value ∙ c.in_ok-text.ensures.1 ∙ ap (λ line. line ++ c.in_ok-text.ensures.0) c.requires,
)
