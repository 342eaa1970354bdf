use Rattle.std.proofs.Common.{◌≡◌, arith, refl}
use Rattle.bq_report.proofs.ReportLemmas.{latencies_more, lines_none, others_kept, table}
use Rattle.bq_report.proofs.report.write_latencies.Goals as goal

pub loop-task-init : goal.loop-task-init
loop-task-init c = record { within = omega arith; lines = lines_none _ _; rest = λ other h. refl }

pub loop-task-preserved : goal.loop-task-preserved
loop-task-preserved c = record {
  within = omega arith;
  lines =
      latencies_more _ _ _ _ _ _ _ _ _ c.loop-task.invariant.lines (c.loop-task.invariant.rest c.loop-task.task (omega arith))
      c.in_ok-write_latency_if.ensures.line;
  rest = others_kept _ _ _ _ c.loop-task.invariant.rest c.in_ok-write_latency_if.ensures.others;
}

pub returns : goal.returns
returns c =
    let end : c.loop-task.task ≡ 1024 = omega (arith, c.loop-task.invariant.within, c.loop-task-test.false) in
    table _ _ _ _ _ _ _ end c.in_ok-push_str.ensures.bytes c.loop-task.invariant.lines
