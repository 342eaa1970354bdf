use Rattle.std.proofs.lemmas.Result.{on_ok_weaker}
use Rattle.bq_report.proofs.ReportLemmas.{json_added}
use Rattle.bq_report.proofs.json_report.JsonScheduleForm.end.Goals as goal

pub returns : goal.returns
returns c =
    on_ok_weaker _ (json_added _ _ _ _ _ _ _ _ _ _ _ _ _ c.in_ok-push_str.ensures.bytes c.in_ok-write_tasks.ensures
    c.in_ok-push_str-2.ensures.bytes c.in_ok-write_processors.ensures c.in_ok-push_str-3.ensures.bytes
    c.in_ok-write_missed.ensures) c.write_end.ensures
