use Rattle.std.proofs.Common.{List, ℕ, ◌++◌, ◌∙◌, ap, string_bytes, subst}
use Rattle.std.proofs.lemmas.Result.{on_ok_weaker}
use Rattle.bq_drawing.specs.Headings.{title_of}
use Rattle.bq_drawing.specs.Pictures.{IsDrawing}
use Rattle.bq_drawing.specs.Frames.{drawn_in}
use Rattle.bq_drawing.proofs.PictureLemmas.{picture_added}
use Rattle.bq_drawing.proofs.svg.Svg.write.Goals as goal

pub returns : goal.returns
returns c =
    let v = c.args.self.now in
    let s = drawn_in c.args.extent v.admitted c.args.names.now in
    let drawn = c.in_ok-drawn.drawn in
    let is : IsDrawing v.window s (title_of v.options) v.discipline v.drawing drawn.height (string_bytes drawn.text) =
    subst (λ (t : List ℕ). IsDrawing v.window s t v.discipline v.drawing drawn.height (string_bytes drawn.text))
    c.title.ensures c.in_ok-drawn.ensures in
    on_ok_weaker _ (picture_added v.window v.options s v.discipline v.drawing drawn.height
    (string_bytes c.in_ok-head.head) (string_bytes drawn.text) _ _ _ _ is c.in_ok-head.ensures
    (c.in_ok-push_str.ensures.bytes ∙ ap (λ t. string_bytes c.args.text.now ++ t) c.as_str.ensures.value)
    (c.in_ok-push_str-2.ensures.bytes ∙ ap (λ t. string_bytes c.push_str.new.self ++ t) c.as_str-2.ensures.value))
    c.write_end.ensures
