use Rattle.std.proofs.Common.{◌≡◌, ◌∙◌, ap, true}
use Rattle.bq_policy_check.specs.Checking.{answered}
use Rattle.bq_policy_check.proofs.checking.check_policy.Goals.{then-words-via-then-words, then-words-via-else-words+then-words-2}
use Rattle.bq_policy_check.proofs.checking.check_policy.Goals as goal

pub returns-then-words : goal.returns-then-words
returns-then-words c =
    let e = c.in_ok-explanation.ensures in
    record {
      verdict = c.in_ok-explanation.explanation.verdict;
      is_verdict = e.is_verdict;
      text = c.in_ok-text.text;
      is = c.answered.ensures ∙ ap (λ accepted. answered accepted c.in_ok-text.text) c.is_accepted.ensures;
      reported = λ plain bare. elim c.then-words.branch [
        | then-words-via-then-words w ↦ let set : c.args.words.now.is_explained ≡ true = w.if-words.true in absurd (cc)
        | then-words-via-else-words+then-words-2 w ↦ let set : c.args.words.now.is_json ≡ true = w.if-words-2.true in absurd (cc)
      ];
      shown = c.in_ok-text.ensures;
    }
