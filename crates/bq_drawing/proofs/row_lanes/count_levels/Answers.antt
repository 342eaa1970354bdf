use Rattle.std.proofs.Common.{◌∙◌}
use Rattle.std.proofs.lemmas.List.{drop_all}
use Rattle.bq_drawing.specs.Shapes.{arrow_of}
use Rattle.bq_drawing.proofs.PlacedLemmas.{lanes_all, lanes_more}
use Rattle.bq_drawing.proofs.row_lanes.count_levels.Goals as goal

pub loop-wake-preserved : goal.loop-wake-preserved
loop-wake-preserved c =
    lanes_more (arrow_of c.args.frame.now.scale.extent) c.loop-wake.levels _ c.args.wakes.now c.loop-wake.wake-index _ _ _ _
    c.loop-wake-test.true c.drawn_wake.ensures c.in_ok-allot.ensures.lane c.in_ok-allot.ensures.taken c.loop-wake.invariant

pub returns : goal.returns
returns c =
    c.count.ensures ∙ lanes_all (arrow_of c.args.frame.now.scale.extent) c.loop-wake.levels c.args.wakes.now c.loop-wake.wake-index _
    (drop_all c.loop-wake.wake-index c.args.wakes.now c.loop-wake-test.false) c.loop-wake.invariant
