use Rattle.std.proofs.Common.{refl}
use Rattle.std.proofs.lemmas.Result.{on_ok_weaker}
use Rattle.bq_workload.specs.declared.due.Due.TheVariants.{Wake}
use Rattle.bq_simulate.specs.declared.simulation.Simulation.{Simulation}
use Rattle.bq_simulate.specs.Deeds.{Rings}
use Rattle.bq_simulate.specs.Steps.{AreWake, DeedsMeet}
use Rattle.bq_simulate.proofs.DeedLemmas.{GoesOnForAnyKinds-first, Stays-here}
use Rattle.bq_simulate.proofs.simulation.Simulation.wake_by_timer.Goals as goal

pub returns-in-Asleep-clause-goes_on : goal.returns-in-Asleep-clause-goes_on
returns-in-Asleep-clause-goes_on g c =
    let takes = g.S.Sink.takes in
    let here : Simulation = c.args.self.now in
    let home = c.in_ok-progress.progress.home in
    let task = c.args.task in
    let now = c.args.now in
    let met = DeedsMeet (Wake task) now in
    on_ok_weaker c.wake.result (λ h.
    GoesOnForAnyKinds-first takes (AreWake home task now) met _ _ here here _ (Rings task now) (Stays-here here)
    (λ kinds drawn.
    (c.in_ok-progress.progress, c.in_ok-progress.ensures.there, c.in-Asleep.is, c.if-progress-now.false, (refl, refl, refl)))
    (λ deeds are. (home, deeds, refl, are)) h) c.wake.ensures.goes_on

-- it wakes a task that sleeps
pub returns-in-Asleep-clause-ends : goal.returns-in-Asleep-clause-ends
returns-in-Asleep-clause-ends g c = λ w well next. c.wake.ensures.ends w well
