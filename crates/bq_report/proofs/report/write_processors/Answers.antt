use Rattle.std.proofs.Common.{◌≡◌, arith}
use Rattle.bq_report.proofs.ReportLemmas.{lines_more, lines_none, table}
use Rattle.bq_report.proofs.report.write_processors.Goals as goal

pub loop-number-init : goal.loop-number-init
loop-number-init c = record { within = omega arith; lines = lines_none _ _ }

pub loop-number-preserved : goal.loop-number-preserved
loop-number-preserved c = record {
  within = omega arith;
  lines = lines_more _ _ _ _ _ c.loop-number.invariant.lines c.in_ok-write_processor_if.ensures;
}

pub returns : goal.returns
returns c =
    let end : c.loop-number.number ≡ 64 = omega (arith, c.loop-number.invariant.within, c.loop-number-test.false) in
    table _ _ _ _ _ _ _ end c.in_ok-push_str.ensures.bytes c.loop-number.invariant.lines
