use Rattle.std.proofs.Common.{rules, ◌≡◌, ◌∙◌, ap, arith, replicate}
use Rattle.bq_drawing.specs.Rows.{DrawingRow, empty_drawing_row}
use Rattle.bq_drawing.proofs.drawing.Drawing.of.Goals as goal

pub returns : goal.returns
returns c =
    let count : c.processors.counter ≡ c.args.processors = omega arith in
    let rows : c.processors.rows.items ≡ replicate c.args.processors empty_drawing_row
    = c.processors.invariant ∙ ap (λ n. replicate {A = DrawingRow} n empty_drawing_row) count in
    search (rules, rows)
