use Rattle.std.proofs.Common.{◌≡◌, ◌∙◌, ◌++◌, List, ℕ, ap, append_assoc, sym}
use Rattle.std.specs.Prelude.{codes, string_bytes}
use Rattle.std.specs.Fmt.{decimal}
use Rattle.std.proofs.lemmas.Result.{IfOk-weaker}
use Rattle.bq_words.specs.Refused.{refused_line}
use Rattle.bq_explain.specs.Verdicts.{exceeded_line}
use Rattle.bq_explain.proofs.verdict.exceeded_line.Goals as goal

-- the line, piece by piece
pieces : (word used most : List ℕ)
    → codes "refused limit " ++ (word ++ (codes " " ++ (used ++ (codes " of " ++ (most ++ codes "\n")))))
    ≡ refused_line (codes "limit " ++ (word ++ (codes " " ++ (used ++ (codes " of " ++ most)))))
pieces word used most =
    let end : (used ++ (codes " of " ++ most)) ++ codes "\n" ≡ used ++ (codes " of " ++ (most ++ codes "\n")) =
    append_assoc used (codes " of " ++ most) (codes "\n") in
    let whole : (word ++ (codes " " ++ (used ++ (codes " of " ++ most)))) ++ codes "\n"
    ≡ word ++ (codes " " ++ (used ++ (codes " of " ++ (most ++ codes "\n")))) =
    append_assoc word (codes " " ++ (used ++ (codes " of " ++ most))) (codes "\n") ∙ ap (λ (t : List ℕ). word ++ (codes " " ++ t)) end in
    ap (λ (t : List ℕ). codes "refused limit " ++ t) (sym whole)

pub returns : goal.returns
returns c =
    let word = c.word-word.result.now in
    let used = decimal c.args.over.used in
    let most = decimal c.args.over.most in
    IfOk-weaker c.format.result
    (λ text. string_bytes text ≡ codes "refused limit " ++ (word ++ (codes " " ++ (used ++ (codes " of " ++ (most ++ codes "\n"))))))
    (λ text. string_bytes text ≡ exceeded_line c.args.over)
    (λ text is.
    is ∙ (pieces word used most
    ∙ ap (λ (w : List ℕ). refused_line (codes "limit " ++ (w ++ (codes " " ++ (used ++ (codes " of " ++ most)))))) c.word-word.ensures))
    c.format.ensures.ok
