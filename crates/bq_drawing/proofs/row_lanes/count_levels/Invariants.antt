use Rattle.std.proofs.Common.{◌≡◌, [], drop}
use Rattle.bq_drawing.specs.Lanes.{lanes_after}
use Rattle.bq_drawing.specs.Shapes.{arrow_of}
use Rattle.bq_drawing.proofs.row_lanes.count_levels.Given as goal

-- the wakes that are left take the rest of the levels
abbrev pub invariant-loop-wake : goal.invariant-loop-wake
invariant-loop-wake l =
    lanes_after (arrow_of l.frame.scale.extent) l.levels (drop l.wake-index l.wakes)
    ≡ lanes_after (arrow_of l.frame.scale.extent) [] l.wakes
