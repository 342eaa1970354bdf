use Rattle.std.proofs.Common.{List, ℕ, ◌++◌, ap, string_bytes}
use Rattle.std.specs.Fmt.{decimal}
use Rattle.std.specs.Prelude.{codes}
use Rattle.bq_drawing.specs.Shapes.{band_text, row_name}
use Rattle.bq_drawing.proofs.PictureLemmas.{last_added}
use Rattle.bq_drawing.proofs.shapes.write_row_name.Goals as goal

pub returns : goal.returns
returns c =
    let name : ℕ → List ℕ = λ line.
    codes "<text class=\"cpu\" x=\"10\" y=\""
    ++ (decimal line ++ (codes "\">cpu " ++ (decimal c.args.number ++ codes "</text>\n"))) in
    last_added c.write-2.result (string_bytes c.args.text.now) (string_bytes c.write.new.self)
    (string_bytes c.write-2.new.self) (band_text c.args.top) (row_name c.args.number c.args.top)
    (name c.saturating_add-line.result) c.in_ok-write.ensures.bytes (ap name c.saturating_add-line.ensures)
    c.write-2.ensures.bytes
