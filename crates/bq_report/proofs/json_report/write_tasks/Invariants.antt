use Rattle.std.proofs.Common.{◌≡◌, ℕ, ◌≤◌}
use Rattle.std.specs.Prelude.{string_bytes}
use Rattle.bq_schedule.specs.WakeLatencies.{latencies_of}
use Rattle.bq_report.specs.Reports.{IsTaskObject}
use Rattle.bq_report.proofs.ReportLemmas.{ElementsBelow}
use Rattle.bq_report.proofs.json_report.write_tasks.Given as goal

-- the elements of the tasks before this one; those behind have the latencies that they had
abbrev pub invariant-loop-task : goal.invariant-loop-task
invariant-loop-task l = record {
  within : l.task ≤ 1024;
  elements : ElementsBelow (λ i. IsTaskObject l.window l.names l.schedule (latencies_of l.fn.latencies i) i) l.task l.is_first
      (string_bytes l.initial.text) (string_bytes l.text);
  rest : (other : ℕ) → l.task ≤ other → latencies_of l.latencies other ≡ latencies_of l.fn.latencies other;
}
