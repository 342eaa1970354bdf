-- Calls of the loop, each of which fails only if memory runs out.
use Rattle.std.proofs.Common.{◌≡◌, ℕ, ◌<◌, inl, inr, false, Some, None, refl, sym, subst, arith}
use Rattle.std.specs.Prelude.{Ok, slice_get}
use Rattle.bq_parts.specs.declared.event.Event.{Event}
use Rattle.bq_parts.specs.declared.event.Event.TheVariants.{Admit, BeginWake, Block, Drain, Draw, EndWake, Install, Pull, Tick}
use Rattle.bq_parts.specs.Choices.{by_programs}
use Rattle.bq_parts.specs.Refusals.{refusal}
use Rattle.bq_parts.specs.Steps.{WorldStep}
use Rattle.bq_parts.specs.World.{count_in}
use Rattle.bq_trace.specs.Machines.{discipline_of}
use Rattle.bq_trace.specs.TraceEvents.{Reported}
use Rattle.bq_workload.specs.declared.progress.TaskProgress.{TaskProgress}
use Rattle.bq_workload.specs.declared.periods.Periods.{Periods}
use Rattle.bq_workload.specs.Accounts.{Accounts}
use Rattle.bq_simulate.specs.declared.drive_fault.DriveFault.{DriveFault}
use Rattle.bq_simulate.specs.declared.drive_fault.DriveFault.TheVariants.{OutOfMemory}
use Rattle.bq_simulate.specs.declared.driver.Driver.{Driver}
use Rattle.bq_simulate.specs.Agreement.{IsReadable, can_run}
use Rattle.bq_simulate.specs.AgreementLaws.{CallsFailForMemory, FailsForMemory, IsDriverReady}
use Rattle.bq_simulate.specs.Drives.{IsWakeFault, PlacesWoken, reading_of_event}
use Rattle.bq_simulate.proofs.AdmissionTakenLemmas.{admissions_are_taken}
use Rattle.bq_simulate.proofs.EventFaultLemmas.{only_memory_is_wanted}
use Rattle.bq_simulate.proofs.EventTakenLemmas.{blocks_are_taken, installs_are_taken, pulls_are_taken, ticks_are_taken}
use Rattle.bq_simulate.proofs.MeetAgreeLemmas.{same_discipline, step_of, world_of}
use Rattle.bq_simulate.proofs.WakeTakenLemmas.{wakes_are_taken}

-- whichever the periods are, they have no part in what is refused
any_periods : Periods
any_periods = record { end = 0; tick = 0; balance = 0; migration_cost = 0 }

-- what can be read and is not refused
for_memory : (d : Driver) (event : Event) → IsReadable d.now (reading_of_event event) → refusal (world_of d) event ≡ None → FailsForMemory d event
for_memory d event readable taken = λ why fails. only_memory_is_wanted d event why readable taken fails

-- the wake of a task that cannot run fails only if memory runs out
wake_fails : (d : Driver) (a : Accounts) (from task now : ℕ) (c : TaskProgress) (why : DriveFault)
    → IsDriverReady d a now → from < count_in (world_of d) → slice_get a.by_task task ≡ Some c → can_run c.task_state ≡ false
    → IsWakeFault d from task now why
    → why ≡ OutOfMemory
wake_fails d a from task now c why ready low at sleeps (inl fails) =
    let begin = wakes_are_taken (discipline_of d.machine.discipline) any_periods (world_of d) a from task now c ready.agrees low at sleeps in
    for_memory d (BeginWake from task) tt begin.taken why fails
wake_fails d a from task now c why ready low at sleeps (inr (begun, reported, mid, does, fails)) =
    let begin = wakes_are_taken (discipline_of d.machine.discipline) any_periods (world_of d) a from task now c ready.agrees low at sleeps in
    let end = begin.leaves does.happens.moves.step.calls begun (world_of mid) (step_of d (BeginWake from task) begun reported mid does) in
    for_memory mid (EndWake from now) (subst (λ n. IsReadable n (Some now)) (sym does.rises) ready.reading) end.taken why fails

-- where a woken task was placed, only a lack of memory keeps it from being taken in
drain_fails : (d e : Driver) (a : Accounts) (from task to now : ℕ) (c : TaskProgress) (reported : Reported)
    → IsDriverReady d a now → from < count_in (world_of d) → slice_get a.by_task task ≡ Some c → can_run c.task_state ≡ false
    → PlacesWoken d from task now to reported e
    → FailsForMemory e (Drain to now)
drain_fails d e a from task to now c reported ready low at sleeps places =
    let mid : Driver = places.mid in
    let begins = places.begins in
    let ends = places.ends in
    let r = discipline_of d.machine.discipline in
    let begin = wakes_are_taken r any_periods (world_of d) a from task now c ready.agrees low at sleeps in
    let end =
    begin.leaves begins.happens.moves.step.calls places.begun (world_of mid)
    (step_of d (BeginWake from task) places.begun places.first mid begins) in
    let discipline = same_discipline d (BeginWake from task) places.begun places.first mid begins in
    let step =
    subst (λ x. WorldStep (by_programs x) (world_of mid) (EndWake from now) ends.happens.moves.step.calls (Ok places.placed) (world_of e))
    discipline (step_of mid (EndWake from now) places.placed places.more e ends) in
    let drain = end.leaves ends.happens.moves.step.calls places.placed (world_of e) step to places.place in
    let read : e.now ≡ now = ends.rises.2 in
    for_memory e (Drain to now) (omega (arith, read), ready.reading.1) drain.taken

-- each call fails only if memory is wanted
pub calls_fail_for_memory : CallsFailForMemory
calls_fail_for_memory = record {
  draws = λ d. for_memory d Draw tt refl;
  installs = λ d a processor generation policy h low newer drawn.
      for_memory d (Install processor policy.hook generation (Some policy)) tt
      (installs_are_taken (discipline_of d.machine.discipline) any_periods (world_of d) a processor generation policy h low newer drawn).taken;
  admissions = λ d a home kind h may.
      for_memory d (Admit _ kind.nice kind.mask kind.slice) tt
      (admissions_are_taken (discipline_of d.machine.discipline) (world_of d) a 0 home kind h may).taken;
  ticks = λ d a processor now ready low.
      for_memory d (Tick processor now) ready.reading
      (ticks_are_taken (discipline_of d.machine.discipline) any_periods (world_of d) a processor now ready.agrees low).taken;
  blocks = λ d a processor task now h reading low runs.
      for_memory d (Block processor now) reading
      (blocks_are_taken (discipline_of d.machine.discipline) any_periods (world_of d) a processor task now h low runs).taken;
  pulls = λ d a processor from now ready low there apart.
      for_memory d (Pull processor from now) ready.reading
      (pulls_are_taken (discipline_of d.machine.discipline) any_periods (world_of d) a processor from now ready.agrees low there apart).taken;
  wakes = wake_fails;
  drains = drain_fails;
}
