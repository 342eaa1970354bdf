use Rattle.std.proofs.Common.{ap}
use Rattle.std.proofs.lemmas.Result.{on_ok_weaker}
use Rattle.bq_drawing.specs.declared.perfetto.Perfetto.{Perfetto}
use Rattle.bq_drawing.proofs.PerfettoLemmas.{events_added}
use Rattle.bq_drawing.proofs.perfetto.PerfettoScheduleForm.add_change.Goals as goal

pub returns-clause-events : goal.returns-clause-events
returns-clause-events c =
    on_ok_weaker _ (events_added c.args.self.now.window c.args.names.now c.args.schedule.now
    c.args.change.now c.shown_of-shown.result c.args.self.now.history c.add_wake.new.self.history
    c.add_stop.new.self.history c.add_start.new.self.history c.add_reading.new.self.history
    _ _ _ _ _ _ _ c.shown_of-shown.ensures c.in_ok-write_decision.ensures
    (ap (λ (p : Perfetto). p.history) c.add_wake.ensures.history) c.in_ok-add_wake.ensures.text c.in_ok-write_pull.ensures
    (ap (λ (p : Perfetto). p.history) c.in_ok-add_stop.ensures.history) c.in_ok-add_stop.ensures.text
    (ap (λ (p : Perfetto). p.history) c.add_start.ensures.history) c.in_ok-add_start.ensures.text
    (ap (λ (p : Perfetto). p.history) c.add_reading.ensures.history)) c.add_reading.ensures.text
