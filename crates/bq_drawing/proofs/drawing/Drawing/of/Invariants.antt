use Rattle.std.proofs.Common.{◌≡◌, replicate}
use Rattle.bq_drawing.specs.Rows.{empty_drawing_row}
use Rattle.bq_drawing.proofs.drawing.Drawing.of.Given as goal

abbrev pub invariant-processors : goal.invariant-processors
invariant-processors l = l.rows.items ≡ replicate l.counter empty_drawing_row
