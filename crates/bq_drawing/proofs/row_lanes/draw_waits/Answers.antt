use Rattle.std.proofs.Common.{◌∙◌, ap, refl, arith}
use Rattle.std.proofs.lemmas.List.{drop_all}
use Rattle.bq_disc.specs.Counts.{saturating_sum}
use Rattle.bq_drawing.specs.declared.lanes.TaskInterval.{TaskInterval}
use Rattle.bq_drawing.specs.Frames.{picture_setting}
use Rattle.bq_drawing.specs.Shapes.{wait_in}
use Rattle.bq_drawing.proofs.PictureLemmas.{lanes_end, lanes_next}
use Rattle.bq_drawing.proofs.PlacedLemmas.{lanes_all, lanes_more, left_all, left_more}
use Rattle.bq_drawing.proofs.row_lanes.draw_waits.Goals as goal

pub loop-wait-preserved : goal.loop-wait-preserved
loop-wait-preserved c =
    let room = (λ (wait : TaskInterval). wait) in
    record {
      text =
          lanes_next room (wait_in (picture_setting c.args.frame.now) c.args.top) c.loop-wait.lanes _ c.args.waits.now
          c.loop-wait.wait-index _ _ _ _ _ _ c.loop-wait-test.true refl c.in_ok-lane.ensures.lane c.in_ok-lane.ensures.taken
          c.in_ok-write_wait_in.ensures c.loop-wait.invariant.text;
      lanes = lanes_more room c.loop-wait.lanes _ c.args.waits.now c.loop-wait.wait-index _ _ _ _ c.loop-wait-test.true refl
          c.in_ok-lane.ensures.lane c.in_ok-lane.ensures.taken c.loop-wait.invariant.lanes;
      fits = omega (arith, c.saturating_add-left_out.ensures);
      left_out =
          left_more room c.loop-wait.lanes _ c.args.waits.now c.loop-wait.wait-index _ _ _ _
          _ _ c.loop-wait-test.true refl c.in_ok-lane.ensures.lane c.in_ok-lane.ensures.taken
          (c.saturating_add-left_out.ensures ∙ ap (λ n. saturating_sum c.loop-wait.left_out n) c.without_lane.ensures)
          c.loop-wait.invariant.left_out;
    }

pub returns-clause-text : goal.returns-clause-text
returns-clause-text c =
    lanes_end (λ (wait : TaskInterval). wait) (wait_in (picture_setting c.args.frame.now) c.args.top) c.loop-wait.lanes
    c.args.waits.now c.loop-wait.wait-index _ _ (drop_all c.loop-wait.wait-index c.args.waits.now c.loop-wait-test.false)
    c.loop-wait.invariant.text

pub returns-clause-lanes : goal.returns-clause-lanes
returns-clause-lanes c =
    c.count-lanes.ensures ∙ lanes_all (λ (wait : TaskInterval). wait) c.loop-wait.lanes c.args.waits.now c.loop-wait.wait-index _
    (drop_all c.loop-wait.wait-index c.args.waits.now c.loop-wait-test.false) c.loop-wait.invariant.lanes

pub returns-clause-left_out : goal.returns-clause-left_out
returns-clause-left_out c =
    left_all (λ (wait : TaskInterval). wait) c.loop-wait.lanes c.args.waits.now c.loop-wait.wait-index _ c.loop-wait.left_out
    (drop_all c.loop-wait.wait-index c.args.waits.now c.loop-wait-test.false) c.loop-wait.invariant.fits c.loop-wait.invariant.left_out
