-- What comes next by the accounts, and an event queue that agrees with them.
use Rattle.std.specs.Prelude.{◌≡◌, ℕ, ◌<◌, ◌⊎◌, false, Bool, List, Option, None, Some, MatchOption, option_and_then, slice_get}
use Rattle.std.specs.Option.{option_map_or}
use Rattle.bq_workload.specs.declared.progress.TaskProgress.{TaskProgress}
use Rattle.bq_workload.specs.declared.progress.TaskState.{TaskState}
use Rattle.bq_workload.specs.declared.progress.TaskState.TheVariants.{Asleep}
use Rattle.bq_workload.specs.declared.due.Due.{Due}
use Rattle.bq_workload.specs.declared.due.Due.TheVariants.{End, Wake, Tick, Look}
use Rattle.bq_workload.specs.declared.processor_state.ProcessorState.{ProcessorState}
use Rattle.bq_workload.specs.declared.roster.Roster.{Roster}
use Rattle.bq_workload.specs.Accounts.{Accounts, accounts_of, is_same}
use Rattle.bq_workload.specs.Dues.{IsDue, phase_end, due_rank, until}
use Rattle.bq_workload.specs.Minima.{at_rank, due_number}

-- when a phase ends: when the task that runs there, if one does, has got what is left of it
abbrev pub phase_ends_at : ℕ → List TaskProgress → ProcessorState → Option ℕ
phase_ends_at end by_task processor_state = option_and_then (λ task. option_and_then (λ progress. until end (phase_end processor_state.since progress)) (slice_get by_task task)) processor_state.run

-- when the timer of a task rings: only if the task sleeps until its timer wakes it
abbrev pub rings_at : ℕ → TaskState → ℕ → Option ℕ
rings_at end Asleep timer = until end timer
rings_at end task_state timer = None

-- when this comes by the accounts, if it does until the end
abbrev pub comes_at : ℕ → Accounts → Due → Option ℕ
comes_at end a (End processor) = option_and_then (phase_ends_at end a.by_task) (slice_get a.by_processor processor)
comes_at end a (Wake task) = option_and_then (λ progress. rings_at end progress.task_state progress.timer) (slice_get a.by_task task)
comes_at end a (Tick processor) = option_and_then (λ processor_state. option_and_then (until end) processor_state.tick) (slice_get a.by_processor processor)
comes_at end a (Look processor) = option_and_then (λ processor_state. option_and_then (until end) processor_state.look) (slice_get a.by_processor processor)

-- one thing is before another: it comes earlier, or at one instant with it and at a lesser rank
abbrev pub IsBefore : ℕ → Due → ℕ → Due → Type 0
IsBefore time due later other = (time < later) ⊎ ((time ≡ later) × (due_rank due < due_rank other))

-- by the accounts this thing comes at this time, and nothing else that comes until the end is before it
pub record IsNextDue (end : ℕ) (a : Accounts) (due : Due) (time : ℕ) : Type 0 where
  pub comes : comes_at end a due ≡ Some time
  pub first : (other : Due) (t : ℕ) → comes_at end a other ≡ Some t → IsBefore t other time due → ⊥

-- by the accounts nothing comes until the end
abbrev pub NothingComes : ℕ → Accounts → Type 0
NothingComes end a = (due : Due) → comes_at end a due ≡ None

-- by the accounts this is what comes first until the end, and when; there is none only if nothing comes
abbrev pub ComesFirst : ℕ → Accounts → Option (ℕ × Due) → Type 0
ComesFirst end a first = MatchOption first (NothingComes end a) (λ d. IsNextDue end a d.1 d.0)

-- an event queue says of this thing when it comes by the accounts; and a thing that comes may be due
pub record AgreesAt (end : ℕ) (a : Accounts) (event_queue : List ℕ) (due : Due) : Type 0 where
  pub at : IsDue due → at_rank event_queue (due_rank due) ≡ due_number (due_rank due) (comes_at end a due)
  pub there : (time : ℕ) → comes_at end a due ≡ Some time → IsDue due

-- a task that runs at a processor ran there last
pub record HasHome (a : Accounts) (task processor : ℕ) : Type 0 where
  pub progress : TaskProgress
  pub there : slice_get a.by_task task ≡ Some progress
  pub home : progress.home ≡ processor

-- each task that runs somewhere ran there last: so it runs at only one processor
abbrev pub HaveHomes : Accounts → Type 0
HaveHomes a =
    (processor task : ℕ) (processor_state : ProcessorState) → slice_get a.by_processor processor ≡ Some processor_state →
    processor_state.run ≡ Some task → HasHome a task processor

-- an event queue says of each thing when it comes by the accounts, in which no task runs at two processors
pub record QueueAgrees (end : ℕ) (a : Accounts) (event_queue : List ℕ) : Type 0 where
  pub all : (due : Due) → AgreesAt end a event_queue due
  pub homes : HaveHomes a

-- the event queue of a roster agrees with its accounts
abbrev pub IsAgreed : Roster → Type 0
IsAgreed r = QueueAgrees r.periods.end (accounts_of r) r.event_queue

-- if the old roster agrees with its accounts, the new one agrees with its own
abbrev pub StaysAgreed : Roster → Roster → Type 0
StaysAgreed old new = IsAgreed old → IsAgreed new

-- whether a task runs at a processor
abbrev pub runs_at : List ProcessorState → ℕ → ℕ → Bool
runs_at by_processor processor task = option_map_or (λ (processor_state : ProcessorState). is_same processor_state.run (Some task)) (slice_get by_processor processor) false

-- a task does not run at the processor where it ran last
pub record TaskRests (a : Accounts) (task : ℕ) : Type 0 where
  pub progress : TaskProgress
  pub there : slice_get a.by_task task ≡ Some progress
  pub still : runs_at a.by_processor progress.home task ≡ false
