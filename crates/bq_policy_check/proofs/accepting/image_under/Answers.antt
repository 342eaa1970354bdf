use Rattle.std.proofs.Common.{◌∙◌, inr, sym}
use Rattle.bq_policy_check.proofs.accepting.image_under.Goals as goal

pub returns-then-not-is_accepted : goal.returns-then-not-is_accepted
returns-then-not-is_accepted c = inr record {
  policy = c.in-Ok.policy;
  is_policy = c.in-Ok.ensures.policy;
  verdict = c.in_ok-verdict.verdict;
  is_verdict = c.in_ok-verdict.ensures;
  refused = sym c.is_accepted.ensures ∙ c.if-not-is_accepted.true;
}

pub returns : goal.returns
returns c = record {
  policy = c.in-Ok.policy;
  is_policy = c.in-Ok.ensures.policy;
  verdict = c.in_ok-verdict.verdict;
  is_verdict = c.in_ok-verdict.ensures;
  accepted = sym c.is_accepted.ensures ∙ c.if-not-is_accepted.false;
  spells = c.in_ok-image.ensures;
}
