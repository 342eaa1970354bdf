use Rattle.std.proofs.Common.{◌≡◌, List, ℕ, ◌++◌, ◌∙◌, ap, string_bytes}
use Rattle.bq_drawing.specs.PictureNames.{hash_of, picture_name_text}
use Rattle.bq_drawing.specs.Pictures.{root_text, root_title}
use Rattle.bq_drawing.specs.Headings.{title_of}
use Rattle.bq_drawing.proofs.PictureLemmas.{both_added}
use Rattle.bq_drawing.proofs.svg.head_of.Goals as goal

pub returns : goal.returns
returns c =
    let options = c.args.options.now in
    let drawn = c.args.drawn.now in
    let t1 = string_bytes c.write_root.new.text in
    let t2 = string_bytes c.write_root_title.new.text in
    let styles = c.as_str-2.result.now in
    let root = root_text (picture_name_text (hash_of options.theme (string_bytes drawn.text))) drawn.height in
    let begun : t1 ≡ root =
    c.in_ok-write_root.ensures ∙ ap (λ (t : List ℕ). t ++ root_text (picture_name_text c.of-name.result.0) drawn.height) c.new-text.ensures.bytes
    ∙ ap (λ hash. root_text (picture_name_text hash) drawn.height)
    (c.of-name.ensures ∙ ap (λ (t : List ℕ). hash_of options.theme t) c.as_str.ensures.value) in (
      styles,
      both_added t1 t2 (string_bytes c.push_str.new.self) (root_title (title_of options)) styles
          (c.in_ok-write_root_title.ensures ∙ ap (λ (t : List ℕ). t1 ++ root_title t) c.title.ensures) c.in_ok-push_str.ensures.bytes
          ∙ ap (λ (t : List ℕ). t ++ (root_title (title_of options) ++ styles)) begun,
    )
