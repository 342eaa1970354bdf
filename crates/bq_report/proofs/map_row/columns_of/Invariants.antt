use Rattle.std.proofs.Common.{◌≤◌}
use Rattle.bq_report.specs.Maps.{moment_at}
use Rattle.bq_report.proofs.MapLemmas.{ColumnsBelow, IsLeft}
use Rattle.bq_report.proofs.map_row.columns_of.Given as goal

-- the columns before this one, and the runs that are left at its beginning
abbrev pub invariant-loop-number : goal.invariant-loop-number
invariant-loop-number l = record {
  within : l.number ≤ l.grid.count;
  below : ColumnsBelow l.shown l.hidden l.grid l.number l.columns.items;
  shown_left : IsLeft (moment_at l.grid l.number) l.shown l.left;
  hidden_left : IsLeft (moment_at l.grid l.number) l.hidden l.others;
}
