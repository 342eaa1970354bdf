-- The accounts of a simulation agree with its machine's world and with its clock. As long as they do, the world refuses no event
-- that the loop gives it, no reading falls, and nothing that comes due is missed.
use Rattle.std.specs.Prelude.{◌≡◌, ◌≢◌, ℕ, ◌+◌, ◌-◌, ◌<◌, ◌≤◌, Bool, true, false, List, [], Option, Some, None, length, slice_get}
use Rattle.std.specs.Option.{option_map_or}
use Rattle.bq_disc.specs.declared.limits.TheConstants.{TASKS}
use Rattle.bq_disc.specs.Tasks.{id_of}
use Rattle.bq_parts.specs.declared.lobby_entry.LobbyEntry.{LobbyEntry}
use Rattle.bq_parts.specs.declared.event.Event.{Event}
use Rattle.bq_parts.specs.declared.event.Event.TheVariants.{Admit, Retire, Draw, Install, BeginWake, EndWake, Drain, Tick, Block, Pull}
use Rattle.bq_parts.specs.declared.reply.Reply.{Reply}
use Rattle.bq_parts.specs.declared.reply.Reply.TheVariants.{Admitted, Retired, Drawn, Installed, Begun, Placed, Drained, Ticked, Blocked, Pulled}
use Rattle.bq_parts.specs.Processors.{size_of}
use Rattle.bq_parts.specs.Refusals.{is_absent, is_away}
use Rattle.bq_parts.specs.Orderly.{IsOrderly}
use Rattle.bq_parts.specs.World.{World, processor_at, inbox, entry_of_id, count_in}
use Rattle.bq_workload.specs.declared.processor_state.ProcessorState.{ProcessorState}
use Rattle.bq_workload.specs.declared.progress.TaskProgress.{TaskProgress}
use Rattle.bq_workload.specs.declared.progress.TaskState.{TaskState}
use Rattle.bq_workload.specs.declared.progress.TaskState.TheVariants.{Asleep, Waiting, Runnable, Over}
use Rattle.bq_workload.specs.Accounts.{Accounts}
use Rattle.bq_workload.specs.Dues.{size_at}
use Rattle.bq_disc.specs.declared.clock.TheConstants.{LATEST}

-- the state of a task by the accounts; none of a task that has not begun
abbrev pub state_at : List TaskProgress → ℕ → Option TaskState
state_at by_task task = option_map_or (λ (progress : TaskProgress). Some progress.task_state) (slice_get by_task task) None

-- the task that runs at a processor by the accounts
abbrev pub runner_at : List ProcessorState → ℕ → Option ℕ
runner_at by_processor processor = option_map_or (λ (state : ProcessorState). state.run) (slice_get by_processor processor) None

-- a task that can run is away from the lobby; one that is asleep, that waits or that is over is not
abbrev pub can_run : TaskState → Bool
can_run Asleep = false
can_run Waiting = false
can_run Runnable = true
can_run Over = false

-- the lobby's entry of a task in a state: absent before the task begins, away while the task can run, and otherwise the task itself
abbrev pub StandsAs : Option TaskState → LobbyEntry → Type 0
StandsAs None s = is_absent s ≡ true
StandsAs (Some task_state) s = (is_absent s ≡ false) × (is_away s ≡ can_run task_state)

-- a world has at its processors what the accounts say
pub record RunsAs (w : World) (a : Accounts) : Type 0 where
  -- there are as many
  pub many : length a.by_processor ≡ count_in w
  -- at each processor both have the same task running, or none
  pub runs : (processor : ℕ) → runner_at a.by_processor processor ≡ id_of (processor_at w processor).running.current
  -- at each processor both count as many tasks that run or wait in the queue
  pub sizes : (processor : ℕ) → size_at a.by_processor processor ≡ size_of (processor_at w processor)

-- The accounts mirror a world: the lobby's entry of each task fits its state, and each processor runs what the accounts say.
pub record Mirrors (w : World) (a : Accounts) : Type 0 where
  pub tasks : (task : ℕ) → StandsAs (state_at a.by_task task) (entry_of_id w task)
  pub processors : RunsAs w a

-- The accounts mirror a world except for one task, which goes to sleep: its state says so already, and it is still away.
pub record MirrorsBut (task : ℕ) (w : World) (a : Accounts) : Type 0 where
  pub others : (other : ℕ) → other ≢ task → StandsAs (state_at a.by_task other) (entry_of_id w other)
  pub sleeps : option_map_or can_run (state_at a.by_task task) true ≡ false
  pub away : is_away (entry_of_id w task) ≡ true
  pub processors : RunsAs w a

-- no task is on its way: hands and inboxes are empty
pub record IsSettled (w : World) : Type 0 where
  pub hands : (processor : ℕ) → (processor_at w processor).hand ≡ None
  pub inboxes : (processor : ℕ) → inbox w processor ≡ []

-- each task was last at a processor of this many
abbrev pub HaveProcessors : ℕ → Accounts → Type 0
HaveProcessors count a = (task : ℕ) (progress : TaskProgress) → slice_get a.by_task task ≡ Some progress → progress.home < count

-- Accounts agree with a world in order, in which no task is on its way.
pub record AgreesWith (w : World) (a : Accounts) : Type 0 where
  pub orderly : IsOrderly w
  pub entries : length w.lobby ≡ TASKS
  pub settled : IsSettled w
  pub mirrors : Mirrors w a
  pub homes : HaveProcessors (count_in w) a

-- Accounts agree with a world in order except for one task, which goes to sleep.
pub record AgreesBut (task : ℕ) (w : World) (a : Accounts) : Type 0 where
  pub orderly : IsOrderly w
  pub entries : length w.lobby ≡ TASKS
  pub settled : IsSettled w
  pub mirrors : MirrorsBut task w a
  pub homes : HaveProcessors (count_in w) a

-- at an instant a task has got no more than its phase takes, and if it sleeps until its timer wakes it, the timer is not past
pub record TaskIsOnTime (now : ℕ) (progress : TaskProgress) : Type 0 where
  pub phase : progress.got ≤ progress.due
  pub timer : progress.task_state ≡ Asleep → now ≤ progress.timer

-- a task that runs at a processor has got no more than its phase takes once its time is counted until now, and the next tick is not past
pub record RunsOnTime (now : ℕ) (by_task : List TaskProgress) (state : ProcessorState) (task : ℕ) : Type 0 where
  pub progress : TaskProgress
  pub there : slice_get by_task task ≡ Some progress
  pub phase : progress.got + (now - state.since) ≤ progress.due
  pub next : ℕ
  pub tick : state.tick ≡ Some next
  pub later : now ≤ next

-- the time of a processor is counted until now at the latest, its next look is not past, and it ticks exactly when something runs
pub record ProcessorIsOnTime (now : ℕ) (by_task : List TaskProgress) (state : ProcessorState) : Type 0 where
  pub since : state.since ≤ now
  pub looks : (time : ℕ) → state.look ≡ Some time → now ≤ time
  pub runs : (task : ℕ) → state.run ≡ Some task → RunsOnTime now by_task state task
  pub rests : state.run ≡ None → state.tick ≡ None

-- At this instant nothing in the accounts is past: no timer, no end of a phase, no tick and no look.
pub record IsOnTime (now : ℕ) (a : Accounts) : Type 0 where
  pub tasks : (task : ℕ) (progress : TaskProgress) → slice_get a.by_task task ≡ Some progress → TaskIsOnTime now progress
  pub processors : (processor : ℕ) (state : ProcessorState) → slice_get a.by_processor processor ≡ Some state → ProcessorIsOnTime now a.by_task state

-- a reading can be given to a clock: it is no less than the last that any was given, and no later than the latest
abbrev pub IsReadable : ℕ → Option ℕ → Type 0
IsReadable last None = Unit {0}
IsReadable last (Some now) = (last ≤ now) × (now ≤ LATEST)

-- an answer is of its event's kind
abbrev pub IsAnswerTo : Event → Reply → Type 0
IsAnswerTo (Admit task nice mask slice) Admitted = Unit {0}
IsAnswerTo (Retire task) Retired = Unit {0}
IsAnswerTo Draw (Drawn generation) = Unit {0}
IsAnswerTo (Install processor hook generation policy) Installed = Unit {0}
IsAnswerTo (BeginWake processor task) (Begun id loads) = Unit {0}
IsAnswerTo (EndWake processor now) (Placed task to by steps) = Unit {0}
IsAnswerTo (Drain processor now) (Drained count run by steps) = Unit {0}
IsAnswerTo (Tick processor now) (Ticked run by steps) = Unit {0}
IsAnswerTo (Block processor now) (Blocked task run) = Unit {0}
IsAnswerTo (Pull processor from now) (Pulled task run by steps) = Unit {0}
IsAnswerTo event reply = ⊥
