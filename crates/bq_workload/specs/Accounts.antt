-- The accounts of a simulation: what runs at each processor and since when, and how far each task has come.
use Rattle.std.specs.Prelude.{◌≡◌, ℕ, ◌+◌, ◌-◌, ◌==◌, Bool, true, false, ◌&&◌, if◌then◌else◌, List, [], nat_lt, replicate, Option, Some, None, option_map, slice_get, slice_set, unwrap_or}
use Rattle.std.specs.List.{list_all}
use Rattle.std.specs.Option.{option_map_or}
use Rattle.bq_workload.specs.declared.progress.TaskProgress.{TaskProgress}
use Rattle.bq_workload.specs.declared.processor_state.ProcessorState.{ProcessorState}
use Rattle.bq_workload.specs.declared.periods.Periods.{Periods}
use Rattle.bq_workload.specs.declared.roster.Roster.{Roster}
use Rattle.bq_workload.specs.TaskProgress.{run_for, moved_to, lacks_more, keeps_time}
use Rattle.bq_workload.specs.Dues.{next_multiple}

-- how far each task has come, and what each processor runs
pub record Accounts : Type 0 where
  pub by_task : List TaskProgress
  pub by_processor : List ProcessorState

-- the accounts that a roster keeps
abbrev pub accounts_of : Roster → Accounts
accounts_of r = record { by_task = r.by_task.items; by_processor = r.by_processor.items }

-- a processor that runs nothing and does not tick; it looks for a task to pull at this instant, if it looks at all
abbrev pub processor_at_rest : Option ℕ → ProcessorState
processor_at_rest look = record { run = None; since = 0; size = 0; tick = None; look = look }

-- when each of this many processors looks first, by the time between two looks; a single one never looks
abbrev pub first_look : ℕ → ℕ → Option ℕ
first_look processors balance = if nat_lt processors 2 then None else Some (next_multiple balance 0)

-- no task is there, and this many processors run nothing
abbrev pub opening_accounts : ℕ → ℕ → Accounts
opening_accounts processors balance = record { by_task = []; by_processor = replicate processors (processor_at_rest (first_look processors balance)) }

-- what is at a place is changed
abbrev pub changed_at : {A : Type 0} → (A → A) → List A → ℕ → List A
changed_at f xs n = option_map_or (λ x. slice_set xs n (f x)) (slice_get xs n) xs

-- a task has come further
abbrev pub of_task : (TaskProgress → TaskProgress) → ℕ → Accounts → Accounts
of_task f task a = record a { by_task = changed_at f a.by_task task }

-- a processor has changed
abbrev pub of_processor : (ProcessorState → ProcessorState) → ℕ → Accounts → Accounts
of_processor f processor a = record a { by_processor = changed_at f a.by_processor processor }

-- the task that runs there, if one does, has run since its time was counted last
abbrev pub runner_charged : ProcessorState → ℕ → Accounts → Accounts
runner_charged processor_state now a = option_map_or (λ task. of_task (run_for (now - processor_state.since)) task a) processor_state.run a

-- the time of the task that runs at a processor, if one does, is counted up to now
abbrev pub accounts_charged : ℕ → ℕ → Accounts → Accounts
accounts_charged processor now a =
    option_map_or (λ (processor_state : ProcessorState). of_processor (λ state. record state { since = now }) processor (runner_charged processor_state now a))
    (slice_get a.by_processor processor) a

-- the task runs at this processor, and has got exactly what its phase takes
pub record IsPhaseDone (a : Accounts) (processor task : ℕ) (progress : TaskProgress) : Type 0 where
  pub processor_state : ProcessorState
  pub at : slice_get a.by_processor processor ≡ Some processor_state
  pub runs : processor_state.run ≡ Some task
  pub there : slice_get a.by_task task ≡ Some progress
  pub done : progress.got ≡ progress.due

-- nothing runs at this processor from now on: it has no tick, and looks for a task at once, if it looks at all
abbrev pub idled : ℕ → ProcessorState → ProcessorState
idled now state = record state { run = None; tick = None; look = option_map (λ _. now) state.look }

-- a task runs at this processor from now on; if none ran before, the processor ticks next at the next multiple of the tick period
abbrev pub occupied : ℕ → ℕ → ℕ → ProcessorState → ProcessorState
occupied tick task now state = record state { run = Some task; since = now; tick = Some (unwrap_or state.tick (next_multiple tick now)) }

-- this task runs at a processor from now on, or none does
abbrev pub taken_over : ℕ → Option ℕ → ℕ → Periods → Accounts → Accounts
taken_over processor None now periods a = of_processor (idled now) processor a
taken_over processor (Some task) now periods a = of_task (moved_to processor periods.migration_cost) task (of_processor (occupied periods.tick task now) processor a)

-- both are one task, or both are none
abbrev pub is_same : Option ℕ → Option ℕ → Bool
is_same None None = true
is_same (Some m) (Some n) = m == n
is_same m n = false

-- this task runs at a processor from now on, or none; if another ran there before, its time is counted first
abbrev pub accounts_switched : ℕ → Option ℕ → ℕ → Periods → Accounts → Accounts
accounts_switched processor run now periods a =
    option_map_or (λ (processor_state : ProcessorState). if is_same processor_state.run run then a else taken_over processor run now periods (accounts_charged processor now a))
    (slice_get a.by_processor processor) a

-- a processor has one task less
abbrev pub shrunk : ℕ → Accounts → Accounts
shrunk processor a = of_processor (λ state. record state { size = state.size - 1 }) processor a

-- a processor has this many tasks more
abbrev pub grown : ℕ → ℕ → Accounts → Accounts
grown processor count a = of_processor (λ state. record state { size = state.size + count }) processor a

-- the task that ran has gone from the queue, and another runs, or none
abbrev pub left_by : ℕ → Option ℕ → ℕ → Periods → Accounts → Accounts
left_by processor run now periods a = accounts_switched processor run now periods (shrunk processor a)

-- this many tasks have entered a queue
abbrev pub accounts_entered : ℕ → ℕ → Option ℕ → ℕ → Periods → Accounts → Accounts
accounts_entered processor count run now periods a = accounts_switched processor run now periods (grown processor count a)

-- a task has gone from one queue to another
abbrev pub accounts_passed : ℕ → ℕ → Accounts → Accounts
accounts_passed from to a = grown to 1 (shrunk from a)

-- a processor ticks next at this instant
pub record TicksAt (a : Accounts) (processor now : ℕ) : Type 0 where
  pub processor_state : ProcessorState
  pub at : slice_get a.by_processor processor ≡ Some processor_state
  pub tick : processor_state.tick ≡ Some now

-- the clock of a processor beats: its next tick is at the next multiple of the tick period
abbrev pub beaten : ℕ → ℕ → ℕ → Accounts → Accounts
beaten processor now tick a = of_processor (λ state. record state { tick = Some (next_multiple tick now) }) processor a

-- a processor looks next at this instant for a task to pull
pub record LooksAt (a : Accounts) (processor now : ℕ) : Type 0 where
  pub processor_state : ProcessorState
  pub at : slice_get a.by_processor processor ≡ Some processor_state
  pub look : processor_state.look ≡ Some now

-- a processor looks for a task: its next look is at the next multiple of the time between two looks
abbrev pub looked : ℕ → ℕ → ℕ → Accounts → Accounts
looked processor now balance a = of_processor (λ state. record state { look = Some (next_multiple balance now) }) processor a

-- the phase of the task that runs at a processor ends after the end of the simulation, if the task's time is counted up to `since`; true if
-- none runs, false if there is no such task
abbrev pub runs_past : ℕ → List TaskProgress → ProcessorState → Bool
runs_past end by_task processor_state = option_map_or (λ task. option_map_or (lacks_more processor_state.since end) (slice_get by_task task) false) processor_state.run true

-- what comes at a time, if it comes, comes after the end
abbrev pub is_past : ℕ → Option ℕ → Bool
is_past end None = true
is_past end (Some time) = nat_lt end time

-- a processor neither ticks nor looks for a task until the end
abbrev pub rests_past : ℕ → ProcessorState → Bool
rests_past end processor_state = is_past end processor_state.tick && is_past end processor_state.look

-- no task has run past its phase; until the end no timer wakes one any more, no phase of a task that runs ends, and no processor ticks
-- or looks for a task to pull
abbrev pub is_over : ℕ → Accounts → Bool
is_over end a = list_all (keeps_time end) a.by_task && list_all (runs_past end a.by_task) a.by_processor && list_all (rests_past end) a.by_processor
