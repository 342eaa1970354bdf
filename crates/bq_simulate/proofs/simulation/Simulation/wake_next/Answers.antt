use Rattle.std.proofs.Common.{◌≡◌, ◌+◌, ℕ, [], ◌∷◌, List, Some, refl, inl, inr, sym, ap, ◌∙◌, subst, arith}
use Rattle.std.specs.Prelude.{slice_get}
use Rattle.std.proofs.lemmas.Result.{on_ok_weaker}
use Rattle.bq_workload.specs.declared.workload.TaskKind.{TaskKind}
use Rattle.bq_trace.specs.TraceEvents.{TraceEvent}
use Rattle.bq_simulate.specs.Actions.{first_task_of}
use Rattle.bq_simulate.specs.Deeds.{Deed, Misses, Reaches}
use Rattle.bq_simulate.specs.Simulations.{GoesOnForAnyKinds, GoesByDeeds, GoesOnBy}
use Rattle.bq_simulate.specs.Steps.{AreJustEvents, AreWake, WakesTask}
use Rattle.bq_simulate.specs.declared.simulation.Simulation.{Simulation}
use Rattle.bq_simulate.proofs.DeedLemmas.{GoesOnForAnyKinds-first, GoesOnBy-same, Stays-here}
use Rattle.bq_simulate.proofs.WakeAimLemmas.{aim_counted, aim_there, first_kept}
use Rattle.bq_simulate.proofs.simulation.Simulation.wake_next.Goals as goal

-- the task that is found by the first of its kind is the one at which the wake aims
aimed-at : {S : Type 0} (takes : S → ℕ → TraceEvent → S → Type 0) (kinds : List TaskKind)
    (kind woken first target processor now : ℕ) (x y : S) (s t : Simulation)
    → slice_get s.firsts.items kind ≡ Some first → target ≡ first + woken → GoesOnForAnyKinds takes (WakesTask target processor now) x s y t
    → GoesOnBy takes kinds (WakesTask (first_task_of kinds kind + woken) processor now) x s y t
aimed-at takes kinds kind woken first target processor now x y s t there is goes_on drawn had firsts =
    let at : target ≡ first_task_of kinds kind + woken = is ∙ ap (λ n. n + woken) (firsts kind first there) in
    subst (λ (n : ℕ). GoesByDeeds takes kinds (WakesTask n processor now) x s drawn y t) at (goes_on kinds drawn had firsts)

pub returns-in-Waiting-clause-goes_on : goal.returns-in-Waiting-clause-goes_on
returns-in-Waiting-clause-goes_on g c =
    let takes = g.S.Sink.takes in
    let target = c.in_ok-target.target in
    let processor = c.args.processor in
    let now = c.args.now in
    let wakes = WakesTask target processor now in
    on_ok_weaker c.wake.result (λ h kinds.
    aimed-at takes kinds c.args.kind c.args.woken c.in_ok-first.first target processor now _ _ _ _ c.in_ok-first.ensures.there
    (rw c.in_ok-target.ensures.ok_part at c.checked_add.ensures).1
    (GoesOnForAnyKinds-first takes (AreWake processor target now) wakes _ _ c.args.self.now
    c.args.self.now _ (Reaches target) (Stays-here c.args.self.now)
    (λ kinds drawn. (c.in_ok-progress.progress, c.in_ok-progress.ensures.there, c.in-Waiting.is, (refl, refl, refl)))
    (λ deeds are. inr (deeds, refl, are)) h)) c.wake.ensures.goes_on

pub returns-in_default-task_state-clause-goes_on : goal.returns-in_default-task_state-clause-goes_on
returns-in_default-task_state-clause-goes_on g c =
    let takes = g.S.Sink.takes in
    let target = c.in_ok-target.target in
    let processor = c.args.processor in
    let now = c.args.now in
    λ kinds.
    aimed-at takes kinds c.args.kind c.args.woken c.in_ok-first.first target processor now _ _ _ _ c.in_ok-first.ensures.there
    (rw c.in_ok-target.ensures.ok_part at c.checked_add.ensures).1
    (GoesOnForAnyKinds-first takes (AreJustEvents []) (WakesTask target processor now) _ _
    c.args.self.now c.args.self.now _ (Misses target) (Stays-here c.args.self.now)
    (λ kinds drawn. (c.in_ok-progress.progress, c.in_ok-progress.ensures.there, c.in_default-task_state.not-Waiting, (refl, refl, refl)))
    (λ deeds none. inl (ap (λ (l : List Deed). Misses target ∷ l) none))
    (GoesOnBy-same takes (AreJustEvents []) refl _ _ _ c.count_missed_wake.ensures))

-- the first task of a kind whose tasks are woken is kept
pub returns-in_err-first-clause-ends : goal.returns-in_err-first-clause-ends
returns-in_err-first-clause-ends g c =
    λ w well busy low.
    absurd (first_kept w c.args.now c.args.kind c.args.woken c.args.self.now well low c.in_err-first.ensures.missing)

-- 16 bits count the task at which the wake aims
pub returns-in_err-target-clause-ends : goal.returns-in_err-target-clause-ends
returns-in_err-target-clause-ends g c = λ w well busy low.
    let few = aim_counted w c.args.now c.args.kind c.args.woken c.in_ok-first.first c.args.self.now well low c.in_ok-first.ensures.there in
    let late = rw c.in_err-target.ensures.ok_part at c.checked_add.ensures in
    absurd (late (omega (arith, few)))

-- it is there
pub returns-in_err-progress-clause-ends : goal.returns-in_err-progress-clause-ends
returns-in_err-progress-clause-ends g c = λ w well busy low.
    let at = (rw c.in_ok-target.ensures.ok_part at c.checked_add.ensures).1 in
    absurd (aim_there w c.args.now c.args.kind c.args.woken c.in_ok-first.first c.args.self.now well low c.in_ok-first.ensures.there
    (ap (slice_get c.args.self.now.roster.by_task.items) (sym at) ∙ c.in_err-progress.ensures.missing))

-- the wake of the next task fails only for memory
pub returns-in-Waiting-clause-ends : goal.returns-in-Waiting-clause-ends
returns-in-Waiting-clause-ends g c = λ w well busy low. c.wake.ensures.ends w well
