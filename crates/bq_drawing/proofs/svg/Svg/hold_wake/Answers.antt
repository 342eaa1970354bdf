use Rattle.std.proofs.lemmas.Result.{on_ok_weaker}
use Rattle.bq_drawing.proofs.PictureLemmas.{wake_held}
use Rattle.bq_drawing.proofs.svg.Svg.hold_wake.Goals as goal

pub returns-clause-wake : goal.returns-clause-wake
returns-clause-wake c =
    on_ok_weaker c.push_wake.result
    (wake_held c.args.self.now.window c.args.wake c.in-Some.wake c.args.self.now.drawing c.push_wake.new.self c.in-Some.is
    (c.shows.ensures.0 c.if-not-shows.false))
    c.push_wake.ensures
