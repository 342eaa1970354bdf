use Rattle.std.proofs.Common.{◌∙◌, ap}
use Rattle.std.proofs.lemmas.Result.{on_ok_weaker}
use Rattle.serde_json.specs.Written.{compact_text}
use Rattle.bq_drawing.specs.Events.{run_object}
use Rattle.bq_drawing.proofs.PerfettoLemmas.{run_written}
use Rattle.bq_drawing.proofs.perfetto.Perfetto.write_run.Goals as goal

pub returns : goal.returns
returns c =
    let run = c.in-Some-Some.run' in
    let start = c.in-Some-Some.start in
    on_ok_weaker _ (run_written c.args.names.now c.args.schedule.now c.args.self.now.history c.args.start c.args.run start run _ _ _ _ _
    c.in-Some-Some.is-0 c.in-Some-Some.is-1 (c.as_str.ensures.value ∙ c.in_ok-name.ensures)
    (c.as_str-2.ensures.value ∙ c.in_ok-args.ensures ∙ ap (λ f. compact_text (run_object f run.task start.waited)) c.task.ensures)
    c.in_ok-write_run_event.ensures)
    (rw (← c.arrows_to-arrows.ensures) c.write_ends_if.ensures)
