use Rattle.std.proofs.Common.{string_bytes}
use Rattle.std.proofs.lemmas.Result.{on_ok_weaker}
use Rattle.serde_json.specs.View.{view}
use Rattle.bq_report.specs.Objects.{task_object}
use Rattle.bq_report.proofs.ReportLemmas.{element_of, no_float_in_task}
use Rattle.bq_report.proofs.json_report.write_task.Goals as goal

pub returns : goal.returns
returns c =
    on_ok_weaker _ (element_of (view c.in_ok-value.value)
    (task_object c.args.names.now c.args.schedule.now c.args.task c.args.percentiles.now) c.args.is_first
    (string_bytes c.args.text.now) (string_bytes c.write_element.new.text) c.in_ok-value.ensures
    (no_float_in_task c.args.names.now c.args.schedule.now c.args.task c.args.percentiles.now)) c.write_element.ensures
