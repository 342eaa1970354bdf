use Rattle.std.proofs.Common.{◌≡◌, ◌<◌, ◌^◌, [], ◌++◌, drop}
use Rattle.std.specs.Prelude.{string_bytes}
use Rattle.bq_disc.specs.Counts.{saturating_sum}
use Rattle.bq_drawing.specs.Lanes.{left_out}
use Rattle.bq_drawing.specs.Frames.{picture_setting}
use Rattle.bq_drawing.specs.Shapes.{arrow_of, in_lanes, wake_in, wakes_text}
use Rattle.bq_drawing.proofs.row_lanes.draw_wakes.Given as goal

-- the wakes that are left complete the text, and how many find no level
abbrev pub invariant-loop-wake : goal.invariant-loop-wake
invariant-loop-wake l = record {
  text : string_bytes l.text
      ++ in_lanes (arrow_of l.frame.scale.extent) (wake_in (picture_setting l.frame) l.top) l.lanes (drop l.wake-index l.wakes)
      ≡ wakes_text (picture_setting l.frame) l.top l.wakes;
  fits : l.left_out < 2 ^ 64;
  left_out : saturating_sum l.left_out (left_out (arrow_of l.frame.scale.extent) l.lanes (drop l.wake-index l.wakes))
      ≡ saturating_sum 0 (left_out (arrow_of l.frame.scale.extent) [] l.wakes);
}
