use Rattle.std.proofs.Common.{◌≡◌, ◌++◌, replicate}
use Rattle.bq_report.specs.Maps.{empty_map_row}
use Rattle.bq_report.proofs.map.add_rows.Given as goal

-- the rows that are added so far have no run
abbrev pub invariant-loop : goal.invariant-loop
invariant-loop l = l.rows.items ≡ l.initial.rows.items ++ replicate l.counter empty_map_row
