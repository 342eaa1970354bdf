use Rattle.std.proofs.Common.{◌≡◌, ◌∙◌, ◌++◌, refl}
use Rattle.std.specs.Prelude.{codes, string_bytes}
use Rattle.std.proofs.lemmas.Result.{IfOk-weaker}
use Rattle.bq_explain.specs.TrailTexts.{way_text}
use Rattle.bq_explain.proofs.trail_text.way_text.Goals as goal

pub returns : goal.returns
returns c =
    IfOk-weaker c.format.result
    (λ text. string_bytes text ≡ string_bytes c.in_ok-known.known ++ (codes " on the path over " ++ string_bytes c.in_ok-place.place))
    (λ text. string_bytes text ≡ way_text c.args.shapes.now c.args.way.now)
    (λ text is. is ∙ rw (c.in_ok-known.ensures.text, c.in_ok-place.ensures) refl) c.format.ensures.ok
