use Rattle.std.proofs.Common.{◌≡◌, ◌∙◌, ◌++◌, ap, append_assoc, sym}
use Rattle.std.specs.Prelude.{codes, string_bytes}
use Rattle.std.specs.Fmt.{decimal}
use Rattle.std.proofs.lemmas.Result.{IfOk-weaker}
use Rattle.bq_words.specs.Refused.{refused_line}
use Rattle.bq_explain.proofs.verdict.verdict_line.Goals as goal

pub returns-in-OverSteps : goal.returns-in-OverSteps
returns-in-OverSteps c =
    let budget = decimal c.in-OverSteps.budget in
    let most = decimal c.in-OverSteps.most in
    rw c.in-OverSteps.is (IfOk-weaker c.format.result
    (λ text. string_bytes text ≡ codes "refused limit steps " ++ (budget ++ (codes " of " ++ (most ++ codes "\n"))))
    (λ text. string_bytes text ≡ refused_line (codes "limit steps " ++ (budget ++ (codes " of " ++ most))))
    (λ text is.
    is ∙ sym (ap (λ described. codes "refused limit steps " ++ described) (append_assoc budget (codes " of " ++ most) (codes "\n"))))
    c.format.ensures.ok)
