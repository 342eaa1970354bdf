use Rattle.std.proofs.Common.{◌≡◌, ◌∙◌, refl, ap, subst, arith}
use Rattle.bq_drawing.specs.declared.svg.Svg.{Svg}
use Rattle.bq_drawing.specs.Holdings.{HoldsWait}
use Rattle.bq_drawing.proofs.PictureLemmas.{waiting_all, waiting_held, waiting_none}
use Rattle.bq_drawing.proofs.svg.Svg.hold_waiting.Goals as goal

pub loop-id-init : goal.loop-id-init
loop-id-init c = record { within = omega arith; waits = waiting_none _ _ _; same = refl }

pub loop-id-preserved : goal.loop-id-preserved
loop-id-preserved c =
    let window : c.loop-id.self.window ≡ c.args.self.now.window = ap (λ (v : Svg). v.window) c.loop-id.invariant.same in
    record {
      within = omega arith;
      waits =
          waiting_held c.args.self.now.window c.args.schedule.now c.loop-id.id c.wait_of.result _ _ _
          c.loop-id.invariant.waits c.wait_of.ensures
          (subst (λ w. HoldsWait w c.wait_of.result c.loop-id.self.drawing c.hold_wait.new.self.drawing) window
          c.in_ok-hold_wait.ensures.wait);
      same = c.hold_wait.ensures.unchanged ∙ ap (λ (v : Svg). record v { drawing = c.hold_wait.new.self.drawing }) c.loop-id.invariant.same;
    }

pub returns-clause-waits : goal.returns-clause-waits
returns-clause-waits c =
    let end : c.loop-id.id ≡ 1024 = omega (arith, c.loop-id.invariant.within, c.loop-id-test.false) in
    waiting_all c.args.self.now.window c.args.schedule.now c.loop-id.id _ _ end c.loop-id.invariant.waits
