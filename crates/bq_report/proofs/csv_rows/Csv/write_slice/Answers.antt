use Rattle.std.proofs.Common.{◌∙◌, arith}
use Rattle.std.proofs.lemmas.Result.{on_ok_weaker}
use Rattle.bq_report.proofs.RowLemmas.{adds_row}
use Rattle.bq_report.proofs.csv_rows.Csv.write_slice.Goals as goal

pub returns : goal.returns
returns c =
    on_ok_weaker _ (adds_row _ _ _ _ _ _ _ _ _ _ (omega arith) (omega arith) (omega arith) (omega arith)
    (c.as_bytes.ensures.value ∙ c.in_ok-processor.ensures.ok)
    (c.as_bytes-2.ensures.value ∙ c.in_ok-task.ensures.ok)
    (c.as_bytes-3.ensures.value ∙ c.in_ok-from.ensures.ok)
    (c.as_bytes-4.ensures.value ∙ c.in_ok-to.ensures.ok))
    c.write_row.ensures
