use Rattle.std.proofs.lemmas.Result.{IfOk-weaker}
use Rattle.bq_report.proofs.MapLemmas.{columns_as_sorted}
use Rattle.bq_report.proofs.map_row.MapRow.columns.Goals as goal

pub returns : goal.returns
returns c =
    rw (← c.self.view_is) (IfOk-weaker c.columns_of.result _ _
    (λ columns are. columns_as_sorted _ _ _ _ _ _ c.args.grid.now columns.items c.sort.ensures.kept c.sort-2.ensures.kept
    c.as_slice.ensures.value c.as_slice-2.ensures.value are)
    c.columns_of.ensures)
