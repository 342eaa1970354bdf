use Rattle.std.proofs.Common.{◌≡◌, arith}
use Rattle.std.proofs.lemmas.Result.{on_ok_weaker}
use Rattle.bq_report.proofs.ReportLemmas.{lines_none}
use Rattle.bq_drawing.proofs.PerfettoLemmas.{runners_more, tail_added}
use Rattle.bq_drawing.proofs.perfetto.PerfettoScheduleForm.end.Goals as goal

pub loop-number-init : goal.loop-number-init
loop-number-init c = record { within = omega arith; runs = lines_none _ _ }

pub loop-number-preserved : goal.loop-number-preserved
loop-number-preserved c = record {
  within = omega arith;
  runs =
      runners_more c.args.self.now.window c.args.names.now c.args.schedule.now c.args.self.now.history c.loop-number.number
      c.processor-figures.result _ _ _ c.loop-number.invariant.runs c.processor-figures.ensures c.in_ok-write_runner.ensures;
}

pub returns-clause-tail : goal.returns-clause-tail
returns-clause-tail c =
    let end : c.loop-number.number ≡ 64 = omega (arith, c.loop-number.invariant.within, c.loop-number-test.false) in
    on_ok_weaker _ (tail_added c.args.self.now.window c.args.names.now c.args.schedule.now c.args.self.now.history
    c.loop-number.number _ _ _ end c.loop-number.invariant.runs) c.write_tail.ensures
