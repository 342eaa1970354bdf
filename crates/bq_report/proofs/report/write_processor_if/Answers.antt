use Rattle.std.proofs.lemmas.Result.{on_ok_weaker}
use Rattle.bq_report.proofs.ReportLemmas.{adds_none, processor_line_added, test_fails}
use Rattle.bq_report.proofs.report.write_processor_if.Goals as goal

pub returns-then-not-has_processor : goal.returns-then-not-has_processor
returns-then-not-has_processor c = adds_none _ _ _ (test_fails _ _ c.has_processor.ensures c.if-not-has_processor.true)

pub returns : goal.returns
returns c =
    on_ok_weaker _
    (processor_line_added _ _ _ _ _ _ _ _ c.has_processor.ensures c.if-not-has_processor.false c.observed_time-observed.ensures
    c.processor.ensures)
    c.write_processor_line.ensures
