use Rattle.std.proofs.Common.{◌≡◌, ◌<◌, ◌^◌, [], ◌++◌, drop}
use Rattle.std.specs.Prelude.{string_bytes}
use Rattle.bq_disc.specs.Counts.{saturating_sum}
use Rattle.bq_drawing.specs.declared.lanes.TaskInterval.{TaskInterval}
use Rattle.bq_drawing.specs.Lanes.{lanes_after, left_out}
use Rattle.bq_drawing.specs.Frames.{picture_setting}
use Rattle.bq_drawing.specs.Shapes.{in_lanes, wait_in, waits_text}
use Rattle.bq_drawing.proofs.row_lanes.draw_waits.Given as goal

-- the waits that are left complete the text, their lanes, and how many find none
abbrev pub invariant-loop-wait : goal.invariant-loop-wait
invariant-loop-wait l = record {
  text : string_bytes l.text ++ in_lanes (λ (wait : TaskInterval). wait) (wait_in (picture_setting l.frame) l.top) l.lanes (drop l.wait-index l.waits)
      ≡ waits_text (picture_setting l.frame) l.top l.waits;
  lanes : lanes_after (λ (wait : TaskInterval). wait) l.lanes (drop l.wait-index l.waits) ≡ lanes_after (λ (wait : TaskInterval). wait) [] l.waits;
  fits : l.left_out < 2 ^ 64;
  left_out : saturating_sum l.left_out (left_out (λ (wait : TaskInterval). wait) l.lanes (drop l.wait-index l.waits))
      ≡ saturating_sum 0 (left_out (λ (wait : TaskInterval). wait) [] l.waits);
}
