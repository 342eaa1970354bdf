use Rattle.bq_explain.proofs.ExplainLemmas.{of_verifier}
use Rattle.bq_explain.proofs.explanation.explain.Goals as goal

pub detail_of-requires : goal.detail_of-requires
detail_of-requires c = of_verifier c.args.policy.now c.args.limits.now c.in_ok-verdict.verdict c.in_ok-verdict.ensures
