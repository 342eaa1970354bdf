use Rattle.std.proofs.Common.{◌≤◌, length}
use Rattle.std.specs.Prelude.{string_bytes}
use Rattle.bq_report.specs.Legends.{GrowsAsNoted}
use Rattle.bq_report.specs.Maps.{IsLegendLine}
use Rattle.bq_report.specs.Reports.{AreParts}
use Rattle.bq_report.proofs.legend.Legend.write_lines.Given as goal

-- the lines of the tasks before this one
abbrev pub invariant-loop-place : goal.invariant-loop-place
invariant-loop-place l = record {
  within : l.place ≤ length l.tasks;
  lines : GrowsAsNoted l.self (λ extent runs columns. AreParts (IsLegendLine l.names l.tasks extent runs columns) l.place)
      (string_bytes l.initial.text) (string_bytes l.text);
}
