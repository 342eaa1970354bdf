-- What comes due once another task runs at a processor, or none.
use Rattle.std.specs.Prelude.{◌≡◌, ℕ, Bool, true, false, List, Option, None, Some, slice_get}
use Rattle.bq_workload.specs.declared.progress.TaskProgress.{TaskProgress}
use Rattle.bq_workload.specs.declared.progress.TaskState.{TaskState}
use Rattle.bq_workload.specs.declared.progress.TaskState.TheVariants.{Asleep}
use Rattle.bq_workload.specs.declared.due.Due.TheVariants.{End, Wake, Tick, Look}
use Rattle.bq_workload.specs.declared.processor_state.ProcessorState.{ProcessorState}
use Rattle.bq_workload.specs.declared.periods.Periods.{Periods}
use Rattle.bq_workload.specs.declared.roster.Roster.{Roster}
use Rattle.bq_workload.specs.Accounts.{Accounts, is_same}
use Rattle.bq_workload.specs.Dues.{IsDropped, IsPlanned, phase_end, next_multiple}

-- a processor that has no tick ticks next at the next multiple of the time between two; with one it keeps that
abbrev pub PlansTick : Periods → ℕ → ℕ → Option ℕ → List ℕ → List ℕ → Type 0
PlansTick periods processor now None old new = IsPlanned periods.end (Tick processor) (next_multiple periods.tick now) old new
PlansTick periods processor now (Some time) old new = new ≡ old

-- a task with this progress runs at a processor: its phase ends when it has got the rest of what it takes
pub record PlansTask (periods : Periods) (processor now : ℕ) (tick : Option ℕ) (progress : TaskProgress) (old new : List ℕ) : Type 0 where
  pub mid : List ℕ
  pub ticks : PlansTick periods processor now tick old mid
  pub ends : IsPlanned periods.end (End processor) (phase_end now progress) mid new

-- a processor that looks for tasks looks at once
abbrev pub PlansLook : Periods → ℕ → ℕ → Option ℕ → List ℕ → List ℕ → Type 0
PlansLook periods processor now None old new = new ≡ old
PlansLook periods processor now (Some time) old new = IsPlanned periods.end (Look processor) now old new

-- nothing runs there: no phase ends, and it does not tick
pub record PlansNone (periods : Periods) (processor now : ℕ) (look : Option ℕ) (old new : List ℕ) : Type 0 where
  pub ended : List ℕ
  pub still : List ℕ
  pub ends : IsDropped (End processor) old ended
  pub ticks : IsDropped (Tick processor) ended still
  pub looks : PlansLook periods processor now look still new

-- this task runs there, which has come as far as the tasks' progress say, or none does
abbrev pub PlansRun : Periods → ℕ → Option ℕ → ℕ → ProcessorState → List TaskProgress → List ℕ → List ℕ → Type 0
PlansRun periods processor None now processor_state by_task old new = PlansNone periods processor now processor_state.look old new
PlansRun periods processor (Some task) now processor_state by_task old new =
    (progress : TaskProgress) × (slice_get by_task task ≡ Some progress) × PlansTask periods processor now processor_state.tick progress old new

-- the plans of a roster are those of a processor at which this task runs from now on, or none
abbrev pub TakeoverIsPlanned : ℕ → Option ℕ → ℕ → Roster → Roster → Type 0
TakeoverIsPlanned processor run now old new =
    (processor_state : ProcessorState) × (slice_get old.by_processor.items processor ≡ Some processor_state) ×
    PlansRun old.periods processor run now processor_state new.by_task.items old.event_queue new.event_queue

-- nothing changes if the same task runs as before
abbrev pub PlansUnless : Bool → Periods → ℕ → Option ℕ → ℕ → ProcessorState → List TaskProgress → List ℕ → List ℕ → Type 0
PlansUnless true periods processor run now processor_state by_task old new = new ≡ old
PlansUnless false periods processor run now processor_state by_task old new = PlansRun periods processor run now processor_state by_task old new

-- the plans after a switch, by the accounts before it and the tasks' progress after it
pub record PlansSwitch (periods : Periods) (processor : ℕ) (run : Option ℕ) (now : ℕ) (a : Accounts) (by_task : List TaskProgress) (old new : List ℕ) : Type 0 where
  pub processor_state : ProcessorState
  pub at : slice_get a.by_processor processor ≡ Some processor_state
  pub plans : PlansUnless (is_same processor_state.run run) periods processor run now processor_state by_task old new

-- the plans of a roster after an answer, by its accounts at the moment when another task took over
abbrev pub SwitchIsPlanned : ℕ → Option ℕ → ℕ → Accounts → Roster → Roster → Type 0
SwitchIsPlanned processor run now a old new = PlansSwitch old.periods processor run now a new.by_task.items old.event_queue new.event_queue

-- the timer of a task is planned if the task sleeps until its timer wakes it; otherwise no timer is
abbrev pub PlansTimer : ℕ → ℕ → TaskState → ℕ → List ℕ → List ℕ → Type 0
PlansTimer end task Asleep timer old new = IsPlanned end (Wake task) timer old new
PlansTimer end task task_state timer old new = IsDropped (Wake task) old new

-- the task that runs at a processor has this progress: its timer is planned, and the end of its phase
pub record PlansProgress (end processor task : ℕ) (processor_state : ProcessorState) (progress : TaskProgress) (old new : List ℕ) : Type 0 where
  pub mid : List ℕ
  pub runs : processor_state.run ≡ Some task
  pub home : progress.home ≡ processor
  pub timer : PlansTimer end task progress.task_state progress.timer old mid
  pub ends : IsPlanned end (End processor) (phase_end processor_state.since progress) mid new

-- the plans of a roster in which the task that runs at a processor has this progress
abbrev pub ProgressIsPlanned : ℕ → ℕ → TaskProgress → Roster → Roster → Type 0
ProgressIsPlanned processor task progress old new =
    (processor_state : ProcessorState) × (slice_get old.by_processor.items processor ≡ Some processor_state) ×
    PlansProgress old.periods.end processor task processor_state progress old.event_queue new.event_queue
