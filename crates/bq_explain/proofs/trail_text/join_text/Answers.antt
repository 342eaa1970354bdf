use Rattle.std.proofs.Common.{◌≡◌, ◌∙◌, ◌++◌, refl}
use Rattle.std.specs.Prelude.{codes, string_bytes}
use Rattle.std.specs.Fmt.{decimal}
use Rattle.std.proofs.lemmas.Result.{IfOk-weaker}
use Rattle.bq_explain.specs.TrailTexts.{join_text}
use Rattle.bq_explain.proofs.trail_text.join_text.Goals as goal

pub returns : goal.returns
returns c =
    let join = c.args.join.now in
    let where_met =
    codes "; where they meet, at slot " ++ (decimal join.slot ++ (codes ", " ++ (string_bytes c.in_ok-outcome.outcome ++ codes "\n"))) in
    IfOk-weaker c.format.result (λ text.
    string_bytes text
    ≡ codes "  r"
    ++ (decimal join.register
    ++ (codes " is " ++ (string_bytes c.in_ok-first.first ++ (codes ", and " ++ (string_bytes c.in_ok-second.second ++ where_met))))))
    (λ text. string_bytes text ≡ join_text c.args.shapes.now join)
    (λ text is. is ∙ rw (c.in_ok-first.ensures, c.in_ok-second.ensures, c.in_ok-outcome.ensures) refl) c.format.ensures.ok
