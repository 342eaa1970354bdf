-- A machine driven event by event, and what is reported of it.
use Rattle.std.specs.Prelude.{◌≡◌, ℕ, ◌<◌, ◌≤◌, List, [], ◌∷◌, ◌++◌, Option, Some, None, Ok, ◌⊎◌}
use Rattle.bq_parts.specs.declared.event.Event.{Event}
use Rattle.bq_parts.specs.declared.event.Event.TheVariants.{BeginWake, EndWake, Drain, Tick, Block, Pull}
use Rattle.bq_parts.specs.declared.reply.Reply.{Reply}
use Rattle.bq_parts.specs.declared.reply.Reply.TheVariants.{Placed, Drained, Ticked, Blocked, Pulled}
use Rattle.bq_words.specs.declared.discipline_name.DisciplineName.{DisciplineName}
use Rattle.bq_words.specs.declared.processor_count.ProcessorCount.{ProcessorCount}
use Rattle.bq_streams.specs.Counts.{one_more}
use Rattle.bq_trace.specs.Machines.{opening_machine}
use Rattle.bq_trace.specs.TraceEvents.{TraceEvent, Reported, Opened, Gets}
use Rattle.bq_trace.specs.Reporting.{Happens}
use Rattle.bq_parts.specs.Refusals.{refusal}
use Rattle.bq_simulate.specs.declared.drive_fault.DriveFault.{DriveFault}
use Rattle.bq_simulate.specs.declared.drive_fault.DriveFault.TheVariants.{OutOfMemory, Reading, Refused}
use Rattle.bq_simulate.specs.declared.driver.Driver.{Driver}
use Rattle.bq_disc.specs.declared.clock.TheConstants.{LATEST}

-- the reading that comes with an event
abbrev pub reading_of_event : Event → Option ℕ
reading_of_event (EndWake processor now) = Some now
reading_of_event (Drain processor now) = Some now
reading_of_event (Tick processor now) = Some now
reading_of_event (Block processor now) = Some now
reading_of_event (Pull processor from now) = Some now
reading_of_event event = None

-- a reading is no less than the last that any clock was given, and counts as it is
abbrev pub ReadingRises : ℕ → Option ℕ → ℕ → Type 0
ReadingRises last None next = next ≡ last
ReadingRises last (Some now) next = (last ≤ now) × (now ≤ LATEST) × (next ≡ now)

-- a reading is less than the last that any clock was given, or too late to count
abbrev pub ReadingFalls : ℕ → Option ℕ → Type 0
ReadingFalls last None = ⊥
ReadingFalls last (Some now) = (now < last) ⊎ (LATEST < now)

-- a machine to which nothing has happened: the first line of a trace
pub record Starts (discipline : DisciplineName) (size : ProcessorCount) (reported : Reported) (d : Driver) : Type 0 where
  pub machine : d.machine ≡ opening_machine discipline size
  pub line : d.line ≡ 1
  pub now : d.now ≡ 0
  pub reports : reported ≡ (1, Opened discipline size) ∷ []

-- the event of the next line is done, and is not refused
pub record DrivesEvent (d : Driver) (event : Event) (reply : Reply) (reported : Reported) (e : Driver) : Type 0 where
  pub line : e.line ≡ one_more d.line
  pub rises : ReadingRises d.now (reading_of_event event) e.now
  pub happens : Happens d.machine e.line event (Ok reply) reported e.machine

-- why an event is not done: its reading falls, the machine refuses it for the first reason that there is, or memory runs out
abbrev pub IsDriveFault : Driver → Event → DriveFault → Type 0
IsDriveFault d event Reading = ReadingFalls d.now (reading_of_event event)
IsDriveFault d event (Refused why) = refusal d.machine.world event ≡ Some why
IsDriveFault d event OutOfMemory = Unit {0}

-- why a wake from a processor is not done: its begin is not, or it has begun and its end is not
abbrev pub IsWakeFault : Driver → ℕ → ℕ → ℕ → DriveFault → Type 0
IsWakeFault d from task now why =
    IsDriveFault d (BeginWake from task) why
    ⊎ ((begun : Reply) × (reported : Reported) × (mid : Driver) × DrivesEvent d (BeginWake from task) begun reported mid × IsDriveFault mid (EndWake from now) why)

-- a reading that falls leaves the machine as it was, and the sink gets nothing
abbrev pub IsUntouched : {S : Type 0} → DriveFault → Driver → Driver → S → S → Type 0
IsUntouched Reading d e old new = (e ≡ d) × (new ≡ old)
IsUntouched fault d e old new = Unit {0}

-- how a sink takes an event of the line of this number
abbrev pub SinkTakes : Type 0 → Type 1
SinkTakes S = S → ℕ → TraceEvent → S → Type 0

-- an event is done, and a sink gets what comes of it
abbrev pub EventIsDriven : {S : Type 0} → SinkTakes S → S → Driver → Event → Reply → S → Driver → Type 0
EventIsDriven takes old d event reply new e = Gets takes old new (λ reported. DrivesEvent d event reply reported e)

-- the task that runs at the event's processor now, as an answer says
abbrev pub runs_now : Reply → Option ℕ
runs_now (Drained count run by steps) = run
runs_now (Ticked run by steps) = run
runs_now (Blocked task run) = run
runs_now (Pulled task run by steps) = run
runs_now reply = None

-- the number of tasks that entered the queue, as an answer to a drain says
abbrev pub count_entered : Reply → ℕ
count_entered (Drained count run by steps) = count
count_entered reply = 0

-- the task that was taken from another processor, as an answer to a pull says
abbrev pub task_pulled : Reply → Option ℕ
task_pulled (Pulled task run by steps) = task
task_pulled reply = None

-- the processor on which a task was placed, as an answer to a wake says
abbrev pub placed_at : Reply → Option ℕ
placed_at (Placed task to by steps) = Some to
placed_at reply = None

-- a sink gets what comes of an event, whose answer says that this task runs at its processor now, or none
abbrev pub RunIsDriven : {S : Type 0} → SinkTakes S → S → Driver → Event → Option ℕ → S → Driver → Type 0
RunIsDriven takes old d event run new e = (reply : Reply) × (runs_now reply ≡ run) × EventIsDriven takes old d event reply new e

-- a sink gets what comes of the end of a wake, whose answer says that the task was placed on this processor
abbrev pub PlaceIsDriven : {S : Type 0} → SinkTakes S → S → Driver → ℕ → ℕ → ℕ → S → Driver → Type 0
PlaceIsDriven takes old d processor now to new e =
    (reply : Reply) × (placed_at reply ≡ Some to) × EventIsDriven takes old d (EndWake processor now) reply new e

-- a sink gets what comes of a drain, whose answer says that this many tasks entered the queue and that this one runs there now, or none
abbrev pub DrainIsDriven : {S : Type 0} → SinkTakes S → S → Driver → ℕ → ℕ → ℕ → Option ℕ → S → Driver → Type 0
DrainIsDriven takes old d processor now count run new e =
    (reply : Reply) × (runs_now reply ≡ run) × (count_entered reply ≡ count) × EventIsDriven takes old d (Drain processor now) reply new e

-- a sink gets what comes of a pull, whose answer says that this task was taken, or none, and that this one runs there now, or none
abbrev pub PullIsDriven : {S : Type 0} → SinkTakes S → S → Driver → ℕ → ℕ → ℕ → Option ℕ → Option ℕ → S → Driver → Type 0
PullIsDriven takes old d processor from now task run new e =
    (reply : Reply) × (runs_now reply ≡ run) × (task_pulled reply ≡ task) × EventIsDriven takes old d (Pull processor from now) reply new e

-- a wake from a processor begins and ends there, and its answer says that the task was placed on this one
pub record PlacesWoken (d : Driver) (from task now to : ℕ) (reported : Reported) (e : Driver) : Type 0 where
  pub begun : Reply
  pub placed : Reply
  pub mid : Driver
  pub first : Reported
  pub more : Reported
  pub begins : DrivesEvent d (BeginWake from task) begun first mid
  pub ends : DrivesEvent mid (EndWake from now) placed more e
  pub place : placed_at placed ≡ Some to
  pub whole : reported ≡ first ++ more

-- some events are done one after another, and none is refused
abbrev pub Drives : Driver → List Event → Reported → Driver → Type 0
Drives d [] reported e = (reported ≡ []) × (e ≡ d)
Drives d (event ∷ events) reported e =
    (reply : Reply) × (mid : Driver) × (first : Reported) × (more : Reported)
    × DrivesEvent d event reply first mid × Drives mid events more e × (reported ≡ first ++ more)

-- events are done one after another, and a sink gets what comes of them
abbrev pub EventsAreDriven : {S : Type 0} → SinkTakes S → S → Driver → List Event → S → Driver → Type 0
EventsAreDriven takes old d events new e = Gets takes old new (λ reported. Drives d events reported e)

-- a task is woken from a processor, and some processor takes it in at the same instant: a sink gets what comes of all three events
abbrev pub WakeIsDriven : {S : Type 0} → SinkTakes S → S → Driver → ℕ → ℕ → ℕ → S → Driver → Type 0
WakeIsDriven takes old d from task now new e =
    (to : ℕ) × EventsAreDriven takes old d (BeginWake from task ∷ EndWake from now ∷ Drain to now ∷ []) new e
