use Rattle.std.proofs.Common.{◌≤◌}
use Rattle.std.specs.Prelude.{string_bytes}
use Rattle.bq_report.specs.Reports.{GrowsByPart, AreParts, IsProcessorLine}
use Rattle.bq_report.proofs.report.write_processors.Given as goal

-- the lines of the processors before this one
abbrev pub invariant-loop-number : goal.invariant-loop-number
invariant-loop-number l = record {
  within : l.number ≤ 64;
  lines : GrowsByPart (AreParts (IsProcessorLine l.window l.schedule) l.number) (string_bytes l.initial.text) (string_bytes l.text);
}
