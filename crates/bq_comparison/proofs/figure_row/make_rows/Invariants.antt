use Rattle.std.specs.Prelude.{take}
use Rattle.bq_comparison.specs.Rows.{AreRows}
use Rattle.bq_comparison.proofs.figure_row.make_rows.Given as goal

abbrev pub invariant-figures : goal.invariant-figures
invariant-figures l = AreRows l.runs (take l.place l.figures) l.rows.items
