use Rattle.std.proofs.lemmas.Result.{on_ok_weaker}
use Rattle.bq_report.specs.Maps.{step_over}
use Rattle.bq_report.proofs.DrawnLemmas.{drawn_by_none, drawn_by_step, step_is}
use Rattle.bq_report.proofs.map.Map.write_over.Goals as goal

pub returns-in-Some : goal.returns-in-Some
returns-in-Some c =
    on_ok_weaker c.write_columns.result
    (λ drawn.
    drawn_by_step c.args.self.now.window c.args.names.now c.args.self.now.admitted c.args.self.now.rows.items c.args.extent.now
    c.round_step.result (step_over c.args.extent.now c.args.self.now.width) c.in-Some.step c.new.result _ _
    (step_is c.args.extent.now c.args.self.now.width c.length.result c.columns_in.result c.round_step.result
    c.round_step.ensures c.length.ensures c.columns_in.ensures) c.in-Some.is c.new.ensures drawn) c.write_columns.ensures

pub returns-in-None : goal.returns-in-None
returns-in-None c =
    drawn_by_none c.args.self.now.window c.args.names.now c.args.self.now.admitted c.args.self.now.rows.items c.args.extent.now
    c.round_step.result (step_over c.args.extent.now c.args.self.now.width) _
    (step_is c.args.extent.now c.args.self.now.width c.length.result c.columns_in.result c.round_step.result
    c.round_step.ensures c.length.ensures c.columns_in.ensures) c.in-None.is
