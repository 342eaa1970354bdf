use Rattle.std.proofs.lemmas.Result.{on_ok_weaker}
use Rattle.bq_report.proofs.DrawnLemmas.{map_added}
use Rattle.bq_report.proofs.map.Map.write_columns.Goals as goal

pub returns : goal.returns
returns c =
    on_ok_weaker c.write.result (λ below.
    map_added c.args.self.now.window c.args.names.now c.args.self.now.admitted c.args.self.now.rows.items
    c.args.grid.now c.new-legend.result c.write_rows.new.legend _ _ _ _ c.in_ok-write_ruler.ensures
    c.new-legend.ensures c.in_ok-write_rows.ensures below) c.write.ensures
