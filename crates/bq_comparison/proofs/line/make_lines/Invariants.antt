use Rattle.std.specs.Prelude.{take}
use Rattle.bq_comparison.specs.Lines.{IsLineShown, Selects, rows_beside}
use Rattle.bq_comparison.proofs.line.make_lines.Given as goal

abbrev pub invariant-rows : goal.invariant-rows
invariant-rows l = Selects (IsLineShown l.window) (rows_beside 0 (take l.place l.sides.ours.items) l.sides.theirs) l.lines.items
