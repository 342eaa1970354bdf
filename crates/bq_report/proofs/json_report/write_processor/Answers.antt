use Rattle.std.proofs.Common.{string_bytes}
use Rattle.std.proofs.lemmas.Result.{on_ok_weaker}
use Rattle.serde_json.specs.View.{view}
use Rattle.bq_report.specs.Objects.{processor_object}
use Rattle.bq_report.proofs.ReportLemmas.{element_of, no_float_in_processor}
use Rattle.bq_report.proofs.json_report.write_processor.Goals as goal

pub returns : goal.returns
returns c =
    on_ok_weaker _ (element_of (view c.in_ok-value.value) (processor_object c.args.number c.args.observed c.args.figures.now) c.args.is_first
    (string_bytes c.args.text.now) (string_bytes c.write_element.new.text) c.in_ok-value.ensures
    (no_float_in_processor c.args.number c.args.observed c.args.figures.now))
    c.write_element.ensures
