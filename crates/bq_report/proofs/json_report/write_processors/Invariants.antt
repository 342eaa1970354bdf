use Rattle.std.proofs.Common.{◌≤◌}
use Rattle.std.specs.Prelude.{string_bytes}
use Rattle.bq_report.specs.Reports.{IsProcessorObject}
use Rattle.bq_report.proofs.ReportLemmas.{ElementsBelow}
use Rattle.bq_report.proofs.json_report.write_processors.Given as goal

-- the elements of the processors before this one
abbrev pub invariant-loop-number : goal.invariant-loop-number
invariant-loop-number l = record {
  within : l.number ≤ 64;
  elements : ElementsBelow (IsProcessorObject l.window l.schedule) l.number l.is_first (string_bytes l.initial.text) (string_bytes l.text);
}
