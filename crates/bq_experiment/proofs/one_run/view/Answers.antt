-- The notes end with those at the schedule that was viewed.
use Rattle.std.proofs.Common.{◌++◌, ap, string_bytes, ◌∙◌}
use Rattle.bq_timeline.specs.Notes.{absent_notes, last_notes}
use Rattle.bq_experiment.proofs.one_run.view.Goals as goal

pub returns-clause-notes : goal.returns-clause-notes
returns-clause-notes g c =
    let viewer = c.feed_viewer.new.run.sink.sink.viewer in
    let viewed = c.in_ok-feed_viewer.ensures.viewed in
    let ends = c.in_ok-end.ensures.notes in
    let before = string_bytes ends.begun.notes ++ absent_notes viewer.schedule ends.begun.tasks.items ends.begun.part in
    record {
      viewer = viewer;
      viewed = viewed;
      before = before;
      whole = c.in_ok-clone.ensures.cases ∙ ends.notes ∙ ap (λ n. before ++ last_notes viewer.schedule n) viewed.clean;
    }
