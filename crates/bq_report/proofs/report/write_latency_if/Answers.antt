use Rattle.std.proofs.Common.{refl}
use Rattle.std.proofs.lemmas.Result.{on_ok_weaker}
use Rattle.bq_report.proofs.ReportLemmas.{adds_none, are_percentiles, latency_line_added, test_fails}
use Rattle.bq_report.proofs.report.write_latency_if.Goals as goal

pub returns-then-not-has_task-clause-line : goal.returns-then-not-has_task-clause-line
returns-then-not-has_task-clause-line c = adds_none _ _ _ (test_fails _ _ c.has_task.ensures c.if-not-has_task.true)

pub returns-clause-line : goal.returns-clause-line
returns-clause-line c =
    on_ok_weaker _ (latency_line_added _ _ _ _ _ _ _ _ _ _ _ _ c.has_task.ensures c.if-not-has_task.false c.text.ensures
    c.task-figures.ensures (are_percentiles _ _ _ _ refl c.percentiles-percentiles.ensures.values
    c.percentiles-percentiles.ensures.sorted c.percentiles-percentiles.ensures.kept) c.still_waiting-still.ensures)
    c.write_latency_line.ensures
