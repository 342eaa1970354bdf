use Rattle.std.proofs.Common.{arith}
use Rattle.bq_report.proofs.MapLemmas.{below_more, left_fewer}
use Rattle.bq_report.proofs.map_row.columns_of.Goals as goal

pub loop-number-preserved : goal.loop-number-preserved
loop-number-preserved c = record {
  within = omega (arith, c.loop-number-test.true, c.loop-number.auto.number-end);
  below =
      below_more c.args.shown.now c.args.hidden.now c.args.grid.now c.loop-number.number c.moment-from.result c.moment-to.result
      c.loop-number.columns.items c.push.new.self.items c.loop-number.left.now c.loop-number.others.now
      c.in_ok-column_between.field-0 c.loop-number.invariant.below c.loop-number.invariant.shown_left
      c.loop-number.invariant.hidden_left c.moment-from.ensures c.moment-to.ensures c.in_ok-column_between.ensures
      c.in_ok-push.ensures.items;
  shown_left =
      left_fewer c.args.grid.now c.loop-number.number c.moment-to.result c.args.shown.now c.loop-number.left.now _
      c.moment-to.ensures c.loop-number.invariant.shown_left c.not_over-left.ensures.order c.not_over-left.ensures.times;
  hidden_left =
      left_fewer c.args.grid.now c.loop-number.number c.moment-to.result c.args.hidden.now c.loop-number.others.now _
      c.moment-to.ensures c.loop-number.invariant.hidden_left c.not_over-others.ensures.order c.not_over-others.ensures.times;
}
