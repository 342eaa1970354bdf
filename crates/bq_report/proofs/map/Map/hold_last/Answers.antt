use Rattle.std.proofs.Common.{◌∙◌, ap, arith, refl, subst}
use Rattle.bq_report.specs.Maps.{RowsHold}
use Rattle.bq_report.proofs.LegendLemmas.{last_more, last_none}
use Rattle.bq_report.proofs.map.Map.hold_last.Goals as goal

pub loop-number-init : goal.loop-number-init
loop-number-init c = record {
  within = omega arith;
  rows = last_none c.args.self.now.window c.args.schedule.now c.args.self.now.rows.items;
  window = refl;
  width = refl;
  admitted = refl;
}

pub loop-number-preserved : goal.loop-number-preserved
loop-number-preserved c = record {
  within = omega arith;
  rows =
      last_more c.args.self.now.window c.args.schedule.now c.loop-number.number _ c.loop-number.self.rows.items _
      c.processor.result.run c.loop-number.invariant.rows (ap (λ figures. figures.run) c.processor.ensures)
      (subst (λ w. RowsHold w c.processor.result.run c.loop-number.self.rows.items c.hold.new.self.rows.items)
      c.loop-number.invariant.window c.in_ok-hold.ensures.ok);
  window = c.hold.ensures.unchanged.0 ∙ c.loop-number.invariant.window;
  width = c.hold.ensures.unchanged.1 ∙ c.loop-number.invariant.width;
  admitted = c.hold.ensures.unchanged.2 ∙ c.loop-number.invariant.admitted;
}
