use Rattle.std.proofs.Common.{◌+◌, ◌∙◌, ap}
use Rattle.std.proofs.lemmas.Result.{on_ok_weaker}
use Rattle.bq_drawing.proofs.PerfettoLemmas.{pull_written}
use Rattle.bq_drawing.proofs.perfetto.write_pull.Goals as goal

pub returns : goal.returns
returns c =
    on_ok_weaker _ (pull_written c.args.names.now c.args.pull c.in-Some.pull (64 + c.from-track.result) _ _ _ _ c.in-Some.is
    (c.as_str.ensures.value ∙ c.in_ok-name.ensures) (c.as_str-2.ensures.value ∙ c.in_ok-args.ensures)
    (ap (λ n. 64 + n) c.from-track.ensures)) c.write_mark.ensures
