use Rattle.std.proofs.Common.{◌≡◌, ℕ, ◌∙◌, refl, ap}
use Rattle.bq_schedule.specs.declared.change.ClockReading.{ClockReading}
use Rattle.bq_schedule.specs.Figures.{Figures}
use Rattle.bq_schedule.specs.Passing.{figures_read}
use Rattle.bq_schedule.specs.Runnable.{comes}
use Rattle.bq_schedule.specs.Steps.{time_at, figures_counted, figures_woken}
use Rattle.bq_schedule.proofs.schedule.Schedule.place.Goals as goal

pub returns-clause-figures : goal.returns-clause-figures
returns-clause-figures c =
    let x = c.args in
    let at = c.read-clock.result.reading.current in
    let came : c.move_to.new.self ≡ comes x.id x.to at (figures_counted x.processor x.decision (figures_read x.processor x.now x.self.now)) =
    c.move_to.ensures
    ∙ ap (λ (f : Figures). comes x.id x.to at f)
    (c.count_decision.ensures ∙ ap (λ (f : Figures). figures_counted x.processor x.decision f) c.read-clock.ensures.figures) in
    let is : at ≡ time_at x.processor x.now x.self.now = ap (λ (r : ClockReading). r.current) c.read-clock.ensures.reading in
    c.wake.ensures ∙ ap (λ (f : Figures). figures_woken x.id x.to at f) came
    ∙ ap (λ (t : ℕ). figures_woken x.id x.to t (comes x.id x.to t (figures_counted x.processor x.decision (figures_read x.processor x.now x.self.now)))) is

pub returns-clause-change : goal.returns-clause-change
returns-clause-change c = rw (c.read-clock.ensures.reading, c.read-clock.ensures.slice, c.read-clock.ensures.run, c.nothing.ensures) refl
