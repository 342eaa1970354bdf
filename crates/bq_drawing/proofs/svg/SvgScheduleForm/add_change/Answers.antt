use Rattle.std.proofs.Common.{ap, subst, sym}
use Rattle.std.proofs.lemmas.Result.{on_ok_weaker}
use Rattle.bq_drawing.specs.declared.svg.Svg.{Svg}
use Rattle.bq_drawing.specs.Holdings.{HoldsChange, Stops}
use Rattle.bq_drawing.proofs.PictureLemmas.{change_held}
use Rattle.bq_drawing.proofs.svg.SvgScheduleForm.add_change.Goals as goal

pub returns-clause-held : goal.returns-clause-held
returns-clause-held c =
    let v = c.args.self.now in
    on_ok_weaker _ (λ h.
    subst (λ (l : Stops). HoldsChange v.window c.args.change.now v.stops.entries l v.drawing c.hold_start.new.self.drawing)
    (sym (ap (λ (w : Svg). w.stops.entries) c.hold_start.ensures.unchanged))
    (change_held c.args.change.now v c.hold_wake.new.self c.hold_pull.new.self c.hold_stop.new.self
    c.hold_start.new.self.drawing c.hold_wake.ensures.unchanged c.hold_pull.ensures.unchanged c.hold_stop.ensures.unchanged
    c.in_ok-hold_wake.ensures.wake c.in_ok-hold_pull.ensures.pull c.in_ok-hold_stop.ensures.run
    c.in_ok-hold_stop.ensures.stops h)) c.hold_start.ensures.start
