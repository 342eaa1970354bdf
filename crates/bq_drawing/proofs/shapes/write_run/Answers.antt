use Rattle.std.proofs.Common.{List, ℕ, ◌++◌, ◌∙◌, ap, string_bytes}
use Rattle.std.specs.Prelude.{codes}
use Rattle.bq_drawing.specs.Frames.{picture_setting}
use Rattle.bq_drawing.specs.Shapes.{rectangle_text, run_title}
use Rattle.bq_drawing.proofs.PictureLemmas.{last_added}
use Rattle.bq_drawing.proofs.shapes.write_run.Goals as goal

pub returns : goal.returns
returns c =
    let s = picture_setting c.args.frame.now in
    last_added c.write_title.result (string_bytes c.args.text.now) (string_bytes c.write_rectangle.new.text)
    (string_bytes c.write_title.new.text) (rectangle_text s c.args.top c.args.run.now)
    (run_title s c.args.run.now ++ codes "</g>\n") (c.as_str.result.now ++ codes "</g>\n") c.in_ok-write_rectangle.ensures
    (ap (λ (t : List ℕ). t ++ codes "</g>\n") (c.as_str.ensures.value ∙ c.in_ok-title.ensures)) c.write_title.ensures
