use Rattle.std.proofs.Common.{◌≡◌, ap, arith, string_bytes}
use Rattle.bq_report.proofs.ReportLemmas.{hooks_at, hooks_more, hooks_none, hooks_same, hooks_table, test_fails}
use Rattle.bq_report.proofs.report.write_policies.Goals as goal
use Rattle.bq_report.proofs.report.write_policies.Goals.{then-has_hooks+in_ok-write_hook_head+in_ok-write_hook_lines, else-has_hooks}

pub loop-number-init : goal.loop-number-init
loop-number-init c = record { within = omega arith; lines = hooks_none _ _ _ }

pub loop-number-preserved : goal.loop-number-preserved
loop-number-preserved c =
    elim c.if-has_hooks.branch [
      | then-has_hooks+in_ok-write_hook_head+in_ok-write_hook_lines w ↦ record {
        within = omega arith;
        lines =
            hooks_at _ _ _ _ _ _ _ _ w.has_head-is (ap string_bytes w.text-is)
            (hooks_more c.args.window.now c.args.schedule.now c.loop-number.number _ _ _ _ _ _ c.loop-number.invariant.lines
            c.processor-figures.ensures (c.has_hooks.ensures.0 w.if-has_hooks.true) w.in_ok-write_hook_head.ensures
            w.in_ok-write_hook_lines.ensures);
      }
      | else-has_hooks w ↦ record {
        within = omega arith;
        lines =
            hooks_at _ _ _ _ _ _ _ _ w.has_head-is (ap string_bytes w.text-is)
            (hooks_same c.args.window.now c.args.schedule.now c.loop-number.number _ _ _ _ c.loop-number.invariant.lines
            c.processor-figures.ensures (test_fails _ _ c.has_hooks.ensures w.if-has_hooks.false));
      }
    ]

pub returns : goal.returns
returns c =
    let end : c.loop-number.number ≡ 64 = omega (arith, c.loop-number.invariant.within, c.loop-number-test.false) in
    hooks_table _ _ _ _ _ _ end c.loop-number.invariant.lines
