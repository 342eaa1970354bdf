-- The deeds of a simulation: events of the trace with their answers, and what tasks and processors do beside them.
use Rattle.std.specs.Prelude.{◌≡◌, ◌≢◌, ℕ, suc, Bool, true, false, List, [], ◌∷◌, ◌++◌, Option, Some, None, is_some, length, slice_get, unwrap_or}
use Rattle.std.specs.Option.{option_map_or}
use Rattle.bq_workload.specs.declared.action.Action.{Action}
use Rattle.bq_workload.specs.declared.action.Length.{Length}
use Rattle.bq_workload.specs.declared.workload.TaskKind.{TaskKind}
use Rattle.bq_parts.specs.declared.event.Event.{Event}
use Rattle.bq_parts.specs.declared.event.Event.TheVariants.{BeginWake, Drain, Tick, Block, Pull}
use Rattle.bq_parts.specs.declared.reply.Reply.{Reply}
use Rattle.bq_trace.specs.TraceEvents.{Reported}
use Rattle.bq_simulate.specs.declared.driver.Driver.{Driver}
use Rattle.bq_simulate.specs.Drives.{DrivesEvent, count_entered, runs_now, task_pulled}
use Rattle.bq_workload.specs.declared.progress.TaskProgress.{TaskProgress}
use Rattle.bq_workload.specs.declared.progress.TaskState.{TaskState}
use Rattle.bq_workload.specs.declared.progress.TaskState.TheVariants.{Asleep, Waiting}
use Rattle.bq_workload.specs.declared.processor_state.ProcessorState.{ProcessorState}
use Rattle.bq_workload.specs.declared.periods.Periods.{Periods}
use Rattle.bq_workload.specs.Accounts.{Accounts, IsPhaseDone, LooksAt, TicksAt, beaten, changed_at, accounts_charged, accounts_entered, left_by, looked, of_task, accounts_passed, accounts_switched}
use Rattle.bq_workload.specs.TaskProgress.{fresh_task, progress_woken}
use Rattle.bq_workload.specs.Dues.{IsSource}
use Rattle.bq_simulate.specs.Actions.{IsTaskOfKind, acted, wake_target, asked_by, length_of_draw, next_action, kind_start}

-- one thing that a simulation does
pub data Deed : Type 0 where
  -- an event of the trace, with its answer
  Happens : Event → Reply → Deed
  -- one more task is there, of this kind, whose first wake comes from this processor
  Joins : ℕ → ℕ → Deed
  -- at an instant the phase of the task that runs at a processor ends, and the task does this action; with none it has done all
  -- of them. If the action is a wake, it comes to this task
  Acts : ℕ → ℕ → ℕ → Option Action → Option ℕ → Deed
  -- the timer of a task rings at an instant
  Rings : ℕ → ℕ → Deed
  -- the wake of another task comes to a task that waits
  Reaches : ℕ → Deed
  -- the wake of another task comes to one that does not wait, and does nothing
  Misses : ℕ → Deed
  -- the clock of a processor beats at an instant
  Beats : ℕ → ℕ → Deed
  -- a processor looks at an instant for a task to pull, and finds that it pulls one from this other, or none
  Looks : ℕ → ℕ → Option ℕ → Deed

-- whether a processor runs something
abbrev pub is_busy : Accounts → ℕ → Bool
is_busy a processor = option_map_or (λ (processor_state : ProcessorState). is_some processor_state.run) (slice_get a.by_processor processor) false

-- a timer wakes a task from the processor that it ran on last; a task that waits is woken from a processor at which some task runs
abbrev pub IsWokenFrom : Accounts → TaskState → ℕ → ℕ → Type 0
IsWokenFrom a Asleep home from = from ≡ home
IsWokenFrom a Waiting home from = is_busy a from ≡ true
IsWokenFrom a task_state home from = ⊥

-- a task may be woken from this processor: it exists, and its state allows the wake
pub record IsWoken (a : Accounts) (from task : ℕ) : Type 0 where
  pub progress : TaskProgress
  pub there : slice_get a.by_task task ≡ Some progress
  pub place : IsWokenFrom a progress.task_state progress.home from

-- a task that is woken sleeps, and is woken from the right processor
abbrev pub MayCome : Event → Accounts → Type 0
MayCome (BeginWake from task) a = IsWoken a from task
MayCome event a = Unit {0}

-- what is kept of a simulation: the accounts, and how many lengths each task's stream has given
pub record Book : Type 0 where
  pub accounts : Accounts
  pub drawn : List ℕ

-- a task that was pulled, if one was, has gone from one queue to another
abbrev pub accounts_pulled : ℕ → ℕ → Option ℕ → Accounts → Accounts
accounts_pulled from to task a = option_map_or (λ _. accounts_passed from to a) task a

-- the accounts after a pull: a task was taken, if one was, and the processor runs `run` now
abbrev pub accounts_after_pull : Periods → ℕ → ℕ → Option ℕ → Option ℕ → ℕ → Accounts → Accounts
accounts_after_pull periods processor from task run now a = accounts_switched processor run now periods (accounts_pulled from processor task a)

-- the accounts after an answer: if another task runs now, the time of the one before is counted; a woken task has no phase yet
abbrev pub after_event : Periods → Event → Reply → Accounts → Accounts
after_event periods (BeginWake processor task) reply a = of_task progress_woken task a
after_event periods (Drain processor now) reply a = accounts_entered processor (count_entered reply) (runs_now reply) now periods a
after_event periods (Tick processor now) reply a = accounts_switched processor (runs_now reply) now periods a
after_event periods (Block processor now) reply a = left_by processor (runs_now reply) now periods a
after_event periods (Pull processor from now) reply a = accounts_switched processor (runs_now reply) now periods (accounts_pulled from processor (task_pulled reply) a)
after_event periods event reply a = a

-- what is kept after an answer: only its accounts change
abbrev pub after_answer : Periods → Event → Reply → Book → Book
after_answer periods event reply b = record b { accounts = after_event periods event reply b.accounts }

-- a task is added that has done nothing; its timer is that of its kind, and its stream has given nothing
abbrev pub task_added : List TaskKind → ℕ → ℕ → Book → Book
task_added kinds kind home b = record { accounts = record b.accounts { by_task = b.accounts.by_task ++ fresh_task kind home (kind_start kinds kind) ∷ [] }; drawn = b.drawn ++ 0 ∷ [] }

-- how many lengths a task's stream has given
abbrev pub draws_of : List ℕ → ℕ → ℕ
draws_of drawn task = unwrap_or (slice_get drawn task) 0

-- the length that an action takes which asks for one: the next of its task
abbrev pub length_taken : ℕ → ℕ → List ℕ → Option Length → ℕ
length_taken seed task drawn None = 0
length_taken seed task drawn (Some asked) = length_of_draw seed task (draws_of drawn task) asked

-- if a length is asked for, the task's stream has given one more
abbrev pub drawn_with : ℕ → List ℕ → Option Length → List ℕ
drawn_with task drawn None = drawn
drawn_with task drawn (Some asked) = changed_at suc drawn task

-- the task does its next action, once the time that it has run is counted
abbrev pub after_act : List TaskKind → ℕ → ℕ → ℕ → ℕ → TaskProgress → Book → Book
after_act kinds seed processor task now progress b = record {
  accounts = of_task (λ _. acted kinds (next_action kinds progress) (length_taken seed task b.drawn (asked_by (next_action kinds progress))) now progress) task (accounts_charged processor now b.accounts);
  drawn = drawn_with task b.drawn (asked_by (next_action kinds progress));
}

-- the clock of a processor beats
abbrev pub after_beat : Periods → ℕ → ℕ → Book → Book
after_beat periods processor now b = record b { accounts = beaten processor now periods.tick b.accounts }

-- a processor looks for a task to pull
abbrev pub after_look : Periods → ℕ → ℕ → Book → Book
after_look periods processor now b = record b { accounts = looked processor now periods.balance b.accounts }

-- what is kept after a deed: what a task does is its next action, by how far it has come
abbrev pub after_deed : List TaskKind → ℕ → Periods → Deed → Book → Book
after_deed kinds seed periods (Happens event reply) b = after_answer periods event reply b
after_deed kinds seed periods (Joins kind home) b = task_added kinds kind home b
after_deed kinds seed periods (Acts processor task now action aim) b =
    option_map_or (λ progress. after_act kinds seed processor task now progress b) (slice_get (accounts_charged processor now b.accounts).by_task task) b
after_deed kinds seed periods (Rings task now) b = b
after_deed kinds seed periods (Reaches task) b = b
after_deed kinds seed periods (Misses task) b = b
after_deed kinds seed periods (Beats processor now) b = after_beat periods processor now b
after_deed kinds seed periods (Looks processor now source) b = after_look periods processor now b

-- what is kept after some deeds, one after another
abbrev pub after_deeds : List TaskKind → ℕ → Periods → Book → List Deed → Book
after_deeds kinds seed periods b [] = b
after_deeds kinds seed periods b (deed ∷ deeds) = after_deeds kinds seed periods (after_deed kinds seed periods deed b) deeds

-- Deeds, one after another, lead from one driver and book to another, and this is what they report. Tasks do what their kinds say.
-- Lengths are drawn from this seed. The periods give the times between ticks and between looks, and what a change of processor
-- costs. A wake comes to the tasks of its kind one after another, by number. A timer that rings is of a task that is
-- asleep until exactly then. A clock beats exactly when it is to, at a processor that runs something. A processor looks exactly
-- when it is to, and finds the processor with the most tasks.
abbrev pub DeedsLead : List TaskKind → ℕ → Periods → Driver → Book → List Deed → Reported → Driver → Book → Type 0
DeedsLead kinds seed periods d b [] reported e f = (reported ≡ []) × (e ≡ d) × (f ≡ b)
DeedsLead kinds seed periods d b (Happens event reply ∷ deeds) reported e f =
    MayCome event b.accounts × (mid : Driver) × (first : Reported) × (more : Reported)
    × DrivesEvent d event reply first mid × DeedsLead kinds seed periods mid (after_answer periods event reply b) deeds more e f × (reported ≡ first ++ more)
DeedsLead kinds seed periods d b (Joins kind home ∷ deeds) reported e f =
    IsTaskOfKind kinds (length b.accounts.by_task) kind × DeedsLead kinds seed periods d (task_added kinds kind home b) deeds reported e f
DeedsLead kinds seed periods d b (Acts processor task now action aim ∷ deeds) reported e f =
    (progress : TaskProgress) × IsPhaseDone (accounts_charged processor now b.accounts) processor task progress × (action ≡ next_action kinds progress) × (aim ≡ wake_target kinds progress)
    × DeedsLead kinds seed periods d (after_act kinds seed processor task now progress b) deeds reported e f
DeedsLead kinds seed periods d b (Rings task now ∷ deeds) reported e f =
    (progress : TaskProgress) × (slice_get b.accounts.by_task task ≡ Some progress) × (progress.task_state ≡ Asleep) × (progress.timer ≡ now) × DeedsLead kinds seed periods d b deeds reported e f
DeedsLead kinds seed periods d b (Reaches task ∷ deeds) reported e f =
    (progress : TaskProgress) × (slice_get b.accounts.by_task task ≡ Some progress) × (progress.task_state ≡ Waiting) × DeedsLead kinds seed periods d b deeds reported e f
DeedsLead kinds seed periods d b (Misses task ∷ deeds) reported e f =
    (progress : TaskProgress) × (slice_get b.accounts.by_task task ≡ Some progress) × (progress.task_state ≢ Waiting) × DeedsLead kinds seed periods d b deeds reported e f
DeedsLead kinds seed periods d b (Beats processor now ∷ deeds) reported e f =
    TicksAt b.accounts processor now × (is_busy b.accounts processor ≡ true) × DeedsLead kinds seed periods d (after_beat periods processor now b) deeds reported e f
DeedsLead kinds seed periods d b (Looks processor now source ∷ deeds) reported e f =
    LooksAt b.accounts processor now × IsSource b.accounts.by_processor processor source × DeedsLead kinds seed periods d (after_look periods processor now b) deeds reported e f

-- the events among them
abbrev pub events_of : List Deed → List Event
events_of [] = []
events_of (Happens event reply ∷ deeds) = event ∷ events_of deeds
events_of (Joins kind home ∷ deeds) = events_of deeds
events_of (Acts processor task now action aim ∷ deeds) = events_of deeds
events_of (Rings task now ∷ deeds) = events_of deeds
events_of (Reaches task ∷ deeds) = events_of deeds
events_of (Misses task ∷ deeds) = events_of deeds
events_of (Beats processor now ∷ deeds) = events_of deeds
events_of (Looks processor now source ∷ deeds) = events_of deeds
