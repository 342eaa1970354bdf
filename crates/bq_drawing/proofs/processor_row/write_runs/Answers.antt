use Rattle.std.proofs.lemmas.List.{drop_all}
use Rattle.bq_drawing.specs.Frames.{picture_setting}
use Rattle.bq_drawing.specs.Shapes.{drawn_run_text}
use Rattle.bq_drawing.proofs.PictureLemmas.{shapes_end, shapes_next}
use Rattle.bq_drawing.proofs.processor_row.write_runs.Goals as goal

pub loop-run-preserved : goal.loop-run-preserved
loop-run-preserved c =
    shapes_next (drawn_run_text (picture_setting c.args.frame.now) c.args.top) c.args.runs.now c.loop-run.run-index _ _ _ _
    c.loop-run-test.true c.in_ok-write_run.ensures c.loop-run.invariant

pub returns : goal.returns
returns c =
    shapes_end (drawn_run_text (picture_setting c.args.frame.now) c.args.top) c.args.runs.now c.loop-run.run-index _ _
    (drop_all c.loop-run.run-index c.args.runs.now c.loop-run-test.false) c.loop-run.invariant
