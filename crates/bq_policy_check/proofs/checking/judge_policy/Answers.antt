use Rattle.std.proofs.Common.{◌∙◌, ap}
use Rattle.bq_policy_check.specs.Checking.{answered}
use Rattle.bq_policy_check.proofs.checking.judge_policy.Goals as goal

pub returns : goal.returns
returns c = record {
  verdict = c.in_ok-verdict.verdict;
  is_verdict = c.in_ok-verdict.ensures;
  text = c.in_ok-line.line;
  is = c.answered.ensures ∙ ap (λ accepted. answered accepted c.in_ok-line.line) c.is_accepted.ensures;
  reported = λ plain bare. c.in_ok-line.ensures;
  shown = λ json. let no = c.requires in absurd (cc);
}
