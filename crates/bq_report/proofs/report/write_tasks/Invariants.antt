use Rattle.std.proofs.Common.{◌≤◌}
use Rattle.std.specs.Prelude.{string_bytes}
use Rattle.bq_report.specs.Reports.{GrowsByPart, AreParts, IsTaskLine}
use Rattle.bq_report.proofs.report.write_tasks.Given as goal

-- the lines of the tasks before this one
abbrev pub invariant-loop-task : goal.invariant-loop-task
invariant-loop-task l = record {
  within : l.task ≤ 1024;
  lines : GrowsByPart (AreParts (IsTaskLine l.window l.names l.schedule) l.task) (string_bytes l.initial.text) (string_bytes l.text);
}
