use Rattle.std.proofs.lemmas.Result.{on_ok_weaker}
use Rattle.bq_drawing.proofs.PictureLemmas.{picture_at_end}
use Rattle.bq_drawing.proofs.svg.SvgScheduleForm.end.Goals as goal

pub returns : goal.returns
returns c = record {
  picture =
      on_ok_weaker _ (picture_at_end c.args.self.now c.hold_runners.new.self c.hold_waiting.new.self c.args.schedule.now c.args.names.now
      c.drawn_over-extent.result _ _ c.hold_runners.ensures.unchanged c.hold_waiting.ensures.unchanged c.in_ok-hold_runners.ensures.runs
      c.in_ok-hold_waiting.ensures.waits c.drawn_over-extent.ensures)
      c.write.ensures;
}
