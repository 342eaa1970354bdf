use Rattle.std.proofs.Common.{◌≡◌, ap, arith, string_bytes}
use Rattle.bq_report.specs.Reports.{IsProcessorObject}
use Rattle.bq_report.proofs.ReportLemmas.{elements_all, elements_at, elements_more, elements_none, elements_same, part_missing, processor_there, test_fails}
use Rattle.bq_report.proofs.json_report.write_processors.Goals as goal
use Rattle.bq_report.proofs.json_report.write_processors.Goals.{then-has_processor+in_ok-write_processor, else-has_processor}

pub loop-number-init : goal.loop-number-init
loop-number-init c = record { within = omega arith; elements = elements_none _ _ }

pub loop-number-preserved : goal.loop-number-preserved
loop-number-preserved c =
    elim c.if-has_processor.branch [
      | then-has_processor+in_ok-write_processor w ↦ record {
        within = omega arith;
        elements =
            elements_at _ _ _ _ _ _ _ w.is_first-is (ap string_bytes w.text-is)
            (elements_more (IsProcessorObject c.args.window.now c.args.schedule.now)
            c.loop-number.number _ _ _ _ _ c.loop-number.invariant.elements
            (processor_there _ _ _ _ _ (c.has_processor.ensures.0 w.if-has_processor.true) c.observed_time-observed.ensures w.processor-figures.ensures)
            w.in_ok-write_processor.ensures);
      }
      | else-has_processor w ↦ record {
        within = omega arith;
        elements =
            elements_at _ _ _ _ _ _ _ w.is_first-is (ap string_bytes w.text-is)
            (elements_same (IsProcessorObject c.args.window.now c.args.schedule.now)
            c.loop-number.number _ _ _ c.loop-number.invariant.elements
            (part_missing _ _ (test_fails _ _ c.has_processor.ensures w.if-has_processor.false)));
      }
    ]

pub returns : goal.returns
returns c =
    let end : c.loop-number.number ≡ 64 = omega (arith, c.loop-number.invariant.within, c.loop-number-test.false) in
    elements_all _ _ _ _ _ _ end c.loop-number.invariant.elements
