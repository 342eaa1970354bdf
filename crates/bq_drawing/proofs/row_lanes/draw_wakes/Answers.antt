use Rattle.std.proofs.Common.{◌∙◌, ap, arith}
use Rattle.std.proofs.lemmas.List.{drop_all}
use Rattle.bq_disc.specs.Counts.{saturating_sum}
use Rattle.bq_drawing.specs.Frames.{picture_setting}
use Rattle.bq_drawing.specs.Shapes.{arrow_of, wake_in}
use Rattle.bq_drawing.proofs.PictureLemmas.{lanes_end, lanes_next}
use Rattle.bq_drawing.proofs.PlacedLemmas.{left_all, left_more}
use Rattle.bq_drawing.proofs.row_lanes.draw_wakes.Goals as goal

pub loop-wake-preserved : goal.loop-wake-preserved
loop-wake-preserved c =
    let room = (arrow_of c.args.frame.now.scale.extent) in
    record {
      text =
          lanes_next room (wake_in (picture_setting c.args.frame.now) c.args.top) c.loop-wake.lanes _ c.args.wakes.now
          c.loop-wake.wake-index _ _ _ _ _ _ c.loop-wake-test.true c.drawn_wake.ensures c.in_ok-level.ensures.lane
          c.in_ok-level.ensures.taken c.in_ok-write_wake_in.ensures c.loop-wake.invariant.text;
      fits = omega (arith, c.saturating_add-left_out.ensures);
      left_out =
          left_more room c.loop-wake.lanes _ c.args.wakes.now c.loop-wake.wake-index _ _ _ _ _ _
          c.loop-wake-test.true c.drawn_wake.ensures c.in_ok-level.ensures.lane c.in_ok-level.ensures.taken
          (c.saturating_add-left_out.ensures ∙ ap (λ n. saturating_sum c.loop-wake.left_out n) c.without_lane.ensures)
          c.loop-wake.invariant.left_out;
    }

pub returns-clause-text : goal.returns-clause-text
returns-clause-text c =
    lanes_end (arrow_of c.args.frame.now.scale.extent) (wake_in (picture_setting c.args.frame.now) c.args.top) c.loop-wake.lanes
    c.args.wakes.now c.loop-wake.wake-index _ _ (drop_all c.loop-wake.wake-index c.args.wakes.now c.loop-wake-test.false)
    c.loop-wake.invariant.text

pub returns-clause-left_out : goal.returns-clause-left_out
returns-clause-left_out c =
    left_all (arrow_of c.args.frame.now.scale.extent) c.loop-wake.lanes c.args.wakes.now c.loop-wake.wake-index _ c.loop-wake.left_out
    (drop_all c.loop-wake.wake-index c.args.wakes.now c.loop-wake-test.false) c.loop-wake.invariant.fits c.loop-wake.invariant.left_out
