use Rattle.std.proofs.Common.{◌≡◌, arith, length}
use Rattle.std.specs.Prelude.{string_bytes}
use Rattle.bq_report.specs.Maps.{IsLegendLine}
use Rattle.bq_report.proofs.ReportLemmas.{lines_end, lines_more, lines_none}
use Rattle.bq_report.proofs.legend.Legend.write_lines.Goals as goal

pub loop-place-init : goal.loop-place-init
loop-place-init c = record {
  within = omega arith;
  lines = λ extent runs columns known. lines_none (IsLegendLine c.args.names.now c.args.tasks.now extent runs columns) (string_bytes c.args.text.now);
}

pub loop-place-preserved : goal.loop-place-preserved
loop-place-preserved c = record {
  within = omega arith;
  lines = λ extent runs columns known. lines_more (IsLegendLine c.args.names.now c.args.tasks.now extent runs columns) c.loop-place.place _ _ _
      (c.loop-place.invariant.lines extent runs columns known) (c.in_ok-write_line_if.ensures extent runs columns known);
}

pub returns : goal.returns
returns c =
    let end : c.loop-place.place ≡ length c.args.tasks.now = omega (arith, c.loop-place.invariant.within, c.loop-place-test.false) in
    λ extent runs columns known.
    lines_end (IsLegendLine c.args.names.now c.args.tasks.now extent runs columns) _ _ _ _ end
    (c.loop-place.invariant.lines extent runs columns known)
