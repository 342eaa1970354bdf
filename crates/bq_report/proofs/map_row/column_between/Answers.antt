use Rattle.std.proofs.lemmas.Result.{IfOk-weaker}
use Rattle.bq_report.proofs.MapLemmas.{column_as}
use Rattle.bq_report.proofs.map_row.column_between.Goals as goal

pub returns : goal.returns
returns c =
    IfOk-weaker c.column_of.result _ _
    (λ column is. column_as c.args.from c.args.to c.begun_before.result.now c.begun_before-2.result.now c.args.shown.now
    c.args.hidden.now column (c.begun_before.ensures c.args.from) (c.begun_before-2.ensures c.args.from) is)
    c.column_of.ensures
