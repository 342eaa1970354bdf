use Rattle.std.proofs.lemmas.Result.{on_ok_weaker}
use Rattle.bq_report.proofs.ReportLemmas.{report_added}
use Rattle.bq_report.proofs.report.ReportScheduleForm.end.Goals as goal

pub returns : goal.returns
returns c =
    on_ok_weaker _ (report_added _ _ _ _ _ _ _ _ _ _ _ _ _ c.in_ok-write_tasks.ensures c.in_ok-push_str.ensures.bytes
    c.in_ok-write_latencies.ensures c.in_ok-write_missed_line.ensures c.in_ok-push_str-2.ensures.bytes
    c.in_ok-write_processors.ensures) c.write_policies.ensures
