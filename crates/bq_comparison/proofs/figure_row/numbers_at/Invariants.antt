use Rattle.std.proofs.Common.{◌≡◌, ◌≤◌, length}
use Rattle.std.specs.Prelude.{take}
use Rattle.bq_comparison.specs.Rows.{numbers_at}
use Rattle.bq_comparison.proofs.figure_row.numbers_at.Given as goal

abbrev pub invariant-runs : goal.invariant-runs
invariant-runs l =
    record { so_far : l.numbers.items ≡ numbers_at l.place (take l.run-index l.runs); few : length l.numbers.items ≤ l.run-index }
