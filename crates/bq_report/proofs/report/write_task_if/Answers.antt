use Rattle.std.proofs.lemmas.Result.{on_ok_weaker}
use Rattle.bq_report.proofs.ReportLemmas.{adds_none, task_line_added, test_fails}
use Rattle.bq_report.proofs.report.write_task_if.Goals as goal

pub returns-then-not-has_task : goal.returns-then-not-has_task
returns-then-not-has_task c = adds_none _ _ _ (test_fails _ _ c.has_task.ensures c.if-not-has_task.true)

pub returns : goal.returns
returns c =
    on_ok_weaker _ (task_line_added _ _ _ _ _ _ _ _ _ _ _ c.has_task.ensures c.if-not-has_task.false c.text.ensures c.task-figures.ensures
    c.fair_time.ensures c.nanoseconds-fair.ensures)
    c.write_task_line.ensures
