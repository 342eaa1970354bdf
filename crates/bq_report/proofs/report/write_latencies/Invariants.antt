use Rattle.std.proofs.Common.{◌≡◌, ℕ, ◌≤◌}
use Rattle.std.specs.Prelude.{string_bytes}
use Rattle.bq_schedule.specs.WakeLatencies.{latencies_of}
use Rattle.bq_report.specs.Reports.{GrowsByPart, AreParts, IsLatencyLine}
use Rattle.bq_report.proofs.report.write_latencies.Given as goal

-- the lines of the tasks before this one; those behind have the latencies that they had
abbrev pub invariant-loop-task : goal.invariant-loop-task
invariant-loop-task l = record {
  within : l.task ≤ 1024;
  lines : GrowsByPart (AreParts (λ i. IsLatencyLine l.window l.names l.schedule (latencies_of l.fn.latencies i) i) l.task)
      (string_bytes l.initial.text) (string_bytes l.text);
  rest : (other : ℕ) → l.task ≤ other → latencies_of l.latencies other ≡ latencies_of l.fn.latencies other;
}
