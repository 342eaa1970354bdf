use Rattle.std.proofs.Common.{◌+◌, ◌∙◌, ap}
use Rattle.std.proofs.lemmas.Result.{on_ok_weaker}
use Rattle.bq_drawing.proofs.PerfettoLemmas.{wake_written}
use Rattle.bq_drawing.proofs.perfetto.write_wake.Goals as goal

pub returns : goal.returns
returns c =
    on_ok_weaker _ (wake_written c.args.names.now c.args.arrow c.args.wake c.in-Some.wake (64 + c.from-track.result) _ _
    _ _ _ c.in-Some.is (c.as_str.ensures.value ∙ c.in_ok-name.ensures) (c.as_str-2.ensures.value ∙ c.in_ok-args.ensures)
    (ap (λ n. 64 + n) c.from-track.ensures) c.in_ok-write_mark.ensures) c.write_beginning.ensures
