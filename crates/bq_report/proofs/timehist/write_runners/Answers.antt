use Rattle.std.proofs.Common.{◌≡◌, arith}
use Rattle.bq_report.proofs.TimehistLemmas.{EndsIn-end, EndsIn-more, EndsIn-none}
use Rattle.bq_report.proofs.timehist.write_runners.Goals as goal

pub loop-number-init : goal.loop-number-init
loop-number-init c = record {
  within = omega arith;
  lines = EndsIn-none c.args.window.now c.args.names.now c.args.schedule.now _;
}

pub loop-number-preserved : goal.loop-number-preserved
loop-number-preserved c = record {
  within = omega arith;
  lines = EndsIn-more c.args.window.now c.args.names.now c.args.schedule.now c.loop-number.number c.processor-figures.result _ _ _
      c.loop-number.invariant.lines c.processor-figures.ensures c.in_ok-write_runner_at.ensures;
}

pub returns : goal.returns
returns c =
    let end : c.loop-number.number ≡ 64 = omega (arith, c.loop-number.invariant.within, c.loop-number-test.false) in
    EndsIn-end c.args.window.now c.args.names.now c.args.schedule.now _ _ _ _ end c.loop-number.invariant.lines
