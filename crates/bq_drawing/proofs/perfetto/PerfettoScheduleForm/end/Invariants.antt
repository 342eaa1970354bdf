use Rattle.std.proofs.Common.{◌≤◌}
use Rattle.std.specs.Prelude.{string_bytes}
use Rattle.bq_report.specs.Reports.{GrowsByPart, AreParts}
use Rattle.bq_drawing.specs.Perfetto.{IsPerfettoRunner}
use Rattle.bq_drawing.proofs.perfetto.PerfettoScheduleForm.end.Given as goal

-- the runs that go on at the processors before this one
abbrev pub invariant-loop-number : goal.invariant-loop-number
invariant-loop-number l = record {
  within : l.number ≤ 64;
  runs : GrowsByPart (AreParts (IsPerfettoRunner l.self.window l.names l.schedule l.self.history) l.number)
      (string_bytes l.initial.text) (string_bytes l.text);
}
