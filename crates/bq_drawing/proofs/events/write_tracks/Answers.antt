use Rattle.std.proofs.Common.{◌∙◌}
use Rattle.std.proofs.lemmas.Result.{on_ok_weaker}
use Rattle.bq_drawing.proofs.PerfettoLemmas.{tracks_written}
use Rattle.bq_drawing.proofs.events.write_tracks.Goals as goal

pub returns : goal.returns
returns c =
    on_ok_weaker _ (tracks_written _ c.from-runs.result c.from.result _ _ _ _ _ c.from-runs.ensures c.from.ensures
    (c.as_str.ensures.value ∙ c.in_ok-name.ensures.ok) (c.as_str-2.ensures.value ∙ c.in_ok-name-2.ensures.ok) c.in_ok-write_track.ensures)
    c.write_track-2.ensures
