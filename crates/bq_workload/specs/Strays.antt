-- The calls of a roster that fail, by the accounts that they find. No call fails if the accounts agree with the world and the clock.
use Rattle.std.specs.Prelude.{◌≡◌, ◌≢◌, ℕ, ◌+◌, ◌-◌, ◌^◌, ◌<◌, ◌≤◌, ◌⊎◌, false, Option, None, Some, slice_get}
use Rattle.bq_disc.specs.declared.limits.TheConstants.{PROCESSORS, TASKS}
use Rattle.bq_workload.specs.declared.processor_state.ProcessorState.{ProcessorState}
use Rattle.bq_workload.specs.declared.progress.TaskProgress.{TaskProgress}
use Rattle.bq_workload.specs.declared.periods.Periods.{Periods}
use Rattle.bq_workload.specs.Accounts.{Accounts, IsPhaseDone, LooksAt, TicksAt, accounts_charged, grown, is_same, shrunk}
use Rattle.bq_workload.specs.Dues.{next_multiple, size_at}
use Rattle.bq_workload.specs.Next.{TaskRests, runs_at}

-- a number names no processor, or none at which anything may come due
abbrev pub IsStrayProcessor : ℕ → Accounts → Type 0
IsStrayProcessor processor a = (slice_get a.by_processor processor ≡ None) ⊎ (PROCESSORS ≤ processor)

-- a number names no task, or none that a timer may wake
abbrev pub IsStrayTask : ℕ → Accounts → Type 0
IsStrayTask task a = (slice_get a.by_task task ≡ None) ⊎ (TASKS ≤ task)

-- the time between two things is 0, or 64 bits do not count its first multiple after an instant
abbrev pub HasNoNext : ℕ → ℕ → Type 0
HasNoNext between now = (between ≡ 0) ⊎ (2 ^ 64 ≤ next_multiple between now)

-- a task would have got more than 64 bits count, and so more than its phase takes
pub record Overflows (task ran : ℕ) (a : Accounts) : Type 0 where
  pub progress : TaskProgress
  pub there : slice_get a.by_task task ≡ Some progress
  pub uncounted : 2 ^ 64 ≤ progress.got + ran
  pub overrun : progress.due < progress.got + ran

-- a task has not run from one instant to another: the second is before the first, there is no such task, or 64 bits do not count what it
-- would have got
abbrev pub IsStrayRun : ℕ → ℕ → ℕ → Accounts → Type 0
IsStrayRun task since now a = (now < since) ⊎ (slice_get a.by_task task ≡ None) ⊎ Overflows task (now - since) a

-- a task that runs at a processor has not run since its time was counted last
pub record RunsAstray (processor now : ℕ) (a : Accounts) : Type 0 where
  pub processor_state : ProcessorState
  pub at : slice_get a.by_processor processor ≡ Some processor_state
  pub task : ℕ
  pub runs : processor_state.run ≡ Some task
  pub astray : IsStrayRun task processor_state.since now a

-- the time of what runs at a processor is not counted until now
abbrev pub IsStrayCharge : ℕ → ℕ → Accounts → Type 0
IsStrayCharge processor now a = (slice_get a.by_processor processor ≡ None) ⊎ RunsAstray processor now a

-- a task has got more than its phase takes
pub record HasOverrun (task : ℕ) (a : Accounts) : Type 0 where
  pub progress : TaskProgress
  pub there : slice_get a.by_task task ≡ Some progress
  pub overrun : progress.due < progress.got

-- a task does not begin to run at a processor: it does not rest, or has run past its phase, or the processor has no next tick
abbrev pub IsStrayStart : Periods → ℕ → ℕ → ℕ → Accounts → Type 0
IsStrayStart periods processor task now a = (TaskRests a task → ⊥) ⊎ HasOverrun task a ⊎ HasNoNext periods.tick now ⊎ IsStrayProcessor processor a

-- the named task does not begin to run at a processor; or without a task, there is no such processor to fall idle
abbrev pub IsStrayTakeover : Periods → ℕ → Option ℕ → ℕ → Accounts → Type 0
IsStrayTakeover periods processor None now a = IsStrayProcessor processor a
IsStrayTakeover periods processor (Some task) now a = IsStrayStart periods processor task now a

-- what runs at a processor is to change, and the change fails: the time of the old task is not counted, or the new one does not begin
pub record SwitchesAstray (periods : Periods) (processor : ℕ) (run : Option ℕ) (now : ℕ) (a : Accounts) : Type 0 where
  pub processor_state : ProcessorState
  pub at : slice_get a.by_processor processor ≡ Some processor_state
  pub other : is_same processor_state.run run ≡ false
  pub astray : IsStrayCharge processor now a ⊎ IsStrayTakeover periods processor run now (accounts_charged processor now a)

-- a switch fails: there is no such processor, or it fails on the way
abbrev pub IsStraySwitch : Periods → ℕ → Option ℕ → ℕ → Accounts → Type 0
IsStraySwitch periods processor run now a = (slice_get a.by_processor processor ≡ None) ⊎ SwitchesAstray periods processor run now a

-- no task is there to leave a processor; or the switch fails once it has left
abbrev pub IsStrayLeave : Periods → ℕ → Option ℕ → ℕ → Accounts → Type 0
IsStrayLeave periods processor run now a = (size_at a.by_processor processor ≡ 0) ⊎ IsStraySwitch periods processor run now (shrunk processor a)

-- there is no processor to take this many tasks more, or 32 bits do not count them
abbrev pub IsStrayGrowth : ℕ → ℕ → Accounts → Type 0
IsStrayGrowth processor count a = (slice_get a.by_processor processor ≡ None) ⊎ (2 ^ 32 ≤ size_at a.by_processor processor + count)

-- these tasks do not enter; or the switch fails once they have
abbrev pub IsStrayEntry : Periods → ℕ → ℕ → Option ℕ → ℕ → Accounts → Type 0
IsStrayEntry periods processor count run now a = IsStrayGrowth processor count a ⊎ IsStraySwitch periods processor run now (grown processor count a)

-- no task is there to leave one processor; or it does not enter the other
abbrev pub IsStrayPass : ℕ → ℕ → Accounts → Type 0
IsStrayPass from to a = (size_at a.by_processor from ≡ 0) ⊎ IsStrayGrowth to 1 (shrunk from a)

-- a processor does not tick at this instant, or has no next tick
abbrev pub IsStrayBeat : ℕ → ℕ → ℕ → Accounts → Type 0
IsStrayBeat processor now tick a = (TicksAt a processor now → ⊥) ⊎ (PROCESSORS ≤ processor) ⊎ HasNoNext tick now

-- a processor does not look for a task at this instant, or has no next look
abbrev pub IsStrayLook : ℕ → ℕ → ℕ → Accounts → Type 0
IsStrayLook processor now balance a = (LooksAt a processor now → ⊥) ⊎ (PROCESSORS ≤ processor) ⊎ HasNoNext balance now

-- a task to be woken does not rest, or no timer may wake it
abbrev pub IsStrayWake : ℕ → Accounts → Type 0
IsStrayWake task a = (TaskRests a task → ⊥) ⊎ (TASKS ≤ task)

-- a task with this progress does not run at a processor, did not run there last, or has run past its phase
abbrev pub IsStrayProgress : ℕ → ℕ → TaskProgress → Accounts → Type 0
IsStrayProgress processor task progress a = (runs_at a.by_processor processor task ≡ false) ⊎ (progress.home ≢ processor) ⊎ (progress.due < progress.got) ⊎ (PROCESSORS ≤ processor) ⊎ IsStrayTask task a

-- no task runs at this processor that has got exactly what its phase takes
abbrev pub NoneIsDone : ℕ → Accounts → Type 0
NoneIsDone processor a = (task : ℕ) (progress : TaskProgress) → IsPhaseDone a processor task progress → ⊥

-- no phase ends at this processor now
abbrev pub IsStrayEnd : ℕ → ℕ → Accounts → Type 0
IsStrayEnd processor now a = IsStrayCharge processor now a ⊎ NoneIsDone processor (accounts_charged processor now a)
