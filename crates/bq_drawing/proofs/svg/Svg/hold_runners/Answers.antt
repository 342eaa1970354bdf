use Rattle.std.proofs.Common.{◌≡◌, ◌∙◌, refl, ap, subst, arith}
use Rattle.bq_drawing.specs.declared.svg.Svg.{Svg}
use Rattle.bq_drawing.specs.Holdings.{HoldsRun}
use Rattle.bq_drawing.specs.Runs.{run_on}
use Rattle.bq_drawing.proofs.PictureLemmas.{runner_held, runners_all, runners_none}
use Rattle.bq_drawing.proofs.svg.Svg.hold_runners.Goals as goal

pub loop-number-init : goal.loop-number-init
loop-number-init c = record { within = omega arith; runs = runners_none _ _ _; same = refl }

pub loop-number-preserved : goal.loop-number-preserved
loop-number-preserved c =
    let p = c.processor-figures.result in
    let window : c.loop-number.self.window ≡ c.args.self.now.window = ap (λ (v : Svg). v.window) c.loop-number.invariant.same in
    record {
      within = omega arith;
      runs =
          runner_held c.args.self.now.window c.args.schedule.now c.loop-number.number p _ _ _ c.loop-number.invariant.runs
          c.processor-figures.ensures (subst
          (λ w. HoldsRun w p.running (run_on p) c.loop-number.self.drawing c.hold_run.new.self.drawing) window
          (subst (λ run. HoldsRun c.loop-number.self.window p.running run c.loop-number.self.drawing c.hold_run.new.self.drawing)
          c.run_on.ensures c.in_ok-hold_run.ensures.run));
      same = c.hold_run.ensures.unchanged ∙ ap (λ (v : Svg). record v { drawing = c.hold_run.new.self.drawing }) c.loop-number.invariant.same;
    }

pub returns-clause-runs : goal.returns-clause-runs
returns-clause-runs c =
    let end : c.loop-number.number ≡ 64 = omega (arith, c.loop-number.invariant.within, c.loop-number-test.false) in
    runners_all c.args.self.now.window c.args.schedule.now c.loop-number.number _ _ end c.loop-number.invariant.runs
