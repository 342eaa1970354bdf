use Rattle.std.proofs.Common.{◌≡◌, arith}
use Rattle.bq_report.proofs.ReportLemmas.{lines_more, lines_none, table}
use Rattle.bq_report.proofs.report.write_tasks.Goals as goal

pub loop-task-init : goal.loop-task-init
loop-task-init c = record { within = omega arith; lines = lines_none _ _ }

pub loop-task-preserved : goal.loop-task-preserved
loop-task-preserved c = record {
  within = omega arith;
  lines = lines_more _ _ _ _ _ c.loop-task.invariant.lines c.in_ok-write_task_if.ensures;
}

pub returns : goal.returns
returns c =
    let end : c.loop-task.task ≡ 1024 = omega (arith, c.loop-task.invariant.within, c.loop-task-test.false) in
    table _ _ _ _ _ _ _ end c.in_ok-push_str.ensures.bytes c.loop-task.invariant.lines
