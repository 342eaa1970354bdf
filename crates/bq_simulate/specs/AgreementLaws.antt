-- The laws of agreement. If the accounts agree with a world, it takes each event that the loop gives it; and the accounts after
-- the answer agree with the world after the event.
use Rattle.std.specs.Prelude.{◌≡◌, ◌≢◌, ℕ, ◌<◌, ◌≤◌, true, false, List, [], ◌∷◌, ◌++◌, Option, None, Some, Ok, length, slice_get}
use Rattle.bq_disc.specs.Discipline.{Discipline}
use Rattle.bq_bpf.specs.declared.board.CounterCall.{CounterCall}
use Rattle.bq_parts.specs.declared.event.Event.{Event}
use Rattle.bq_parts.specs.declared.event.Event.TheVariants.{Admit, BeginWake, Block, Drain, Draw, EndWake, Install, Pull, Tick}
use Rattle.bq_parts.specs.declared.reply.Reply.{Reply}
use Rattle.bq_parts.specs.Choices.{by_programs}
use Rattle.bq_parts.specs.Refusals.{refusal}
use Rattle.bq_parts.specs.Steps.{WorldStep}
use Rattle.bq_parts.specs.World.{World, count_in, processor_at}
use Rattle.bq_installed.specs.Installed.{at_hook}
use Rattle.bq_workload.specs.declared.due.Due.{Due}
use Rattle.bq_workload.specs.declared.progress.TaskProgress.{TaskProgress}
use Rattle.bq_workload.specs.declared.periods.Periods.{Periods}
use Rattle.bq_workload.specs.declared.workload.TaskKind.{TaskKind}
use Rattle.bq_workload.specs.declared.workload.Workload.{Workload}
use Rattle.bq_workload.specs.declared.processor_state.ProcessorState.{ProcessorState}
use Rattle.bq_workload.specs.Accounts.{Accounts, beaten, looked, accounts_switched}
use Rattle.bq_workload.specs.Next.{IsNextDue}
use Rattle.bq_workload.specs.TaskProgress.{fresh_task}
use Rattle.bq_verify.specs.Accepted.{Accepted}
use Rattle.bq_simulate.specs.Agreement.{AgreesBut, AgreesWith, IsAnswerTo, IsOnTime, IsReadable, can_run, runner_at}
use Rattle.bq_trace.specs.TraceEvents.{Reported}
use Rattle.bq_simulate.specs.declared.drive_fault.DriveFault.{DriveFault}
use Rattle.bq_simulate.specs.declared.drive_fault.DriveFault.TheVariants.{OutOfMemory}
use Rattle.bq_simulate.specs.declared.driver.Driver.{Driver}
use Rattle.bq_simulate.specs.Deeds.{Book, Deed, DeedsLead, after_event, is_busy}
use Rattle.bq_simulate.specs.Drives.{IsDriveFault, IsWakeFault, PlacesWoken, count_entered, placed_at, reading_of_event}
use Rattle.bq_simulate.specs.Simulations.{SimulationBegins, IsSimulation}
use Rattle.bq_simulate.specs.Steps.{IsAdmissible, DeedsMeet}
use Rattle.bq_disc.specs.declared.clock.TheConstants.{LATEST}

-- an event is not refused; and in each way to do it, its answer and the world that it leaves have this property
pub record IsTaken (d : Discipline) (w : World) (event : Event) (Leaves : Reply → World → Type 0) : Type 0 where
  pub taken : refusal w event ≡ None
  pub leaves : (calls : List CounterCall) (r : Reply) (v : World) → WorldStep (by_programs d) w event calls (Ok r) v → Leaves r v

-- what its answer leaves of some accounts agrees with the world that it leaves
abbrev pub EventKeepsAgreement : Discipline → Periods → World → Accounts → Event → Type 0
EventKeepsAgreement d periods w a event = IsTaken d w event (λ r v. AgreesWith v (after_event periods event r a))

-- A tick of any processor is taken.
abbrev pub TicksAreTaken : Type 0
TicksAreTaken =
    (d : Discipline) (periods : Periods) (w : World) (a : Accounts) (processor now : ℕ) → AgreesWith w a → processor < count_in w → EventKeepsAgreement d periods w a (Tick processor now)

-- A block is taken of the task that runs at a processor, once its state says that it sleeps.
abbrev pub BlocksAreTaken : Type 0
BlocksAreTaken =
    (d : Discipline) (periods : Periods) (w : World) (a : Accounts) (processor task now : ℕ) → AgreesBut task w a → processor < count_in w →
    runner_at a.by_processor processor ≡ Some task → EventKeepsAgreement d periods w a (Block processor now)

-- A pull of one processor from another is taken.
abbrev pub PullsAreTaken : Type 0
PullsAreTaken =
    (d : Discipline) (periods : Periods) (w : World) (a : Accounts) (processor from now : ℕ) → AgreesWith w a → processor < count_in w → from < count_in w → processor ≢ from →
    EventKeepsAgreement d periods w a (Pull processor from now)

-- A number is drawn.
abbrev pub DrawsAreTaken : Type 0
DrawsAreTaken = (d : Discipline) (periods : Periods) (w : World) (a : Accounts) → AgreesWith w a → EventKeepsAgreement d periods w a Draw

-- A policy is installed at its hook, with a generation that was drawn and is newer than the one at the hook.
abbrev pub InstallsAreTaken : Type 0
InstallsAreTaken =
    (d : Discipline) (periods : Periods) (w : World) (a : Accounts) (processor generation : ℕ) (policy : Accepted) → AgreesWith w a → processor < count_in w →
    (at_hook policy.hook (processor_at w processor).hooks).generation < generation → generation ≤ w.drawn →
    EventKeepsAgreement d periods w a (Install processor policy.hook generation (Some policy))

-- one task more
abbrev pub accounts_with_task : TaskProgress → Accounts → Accounts
accounts_with_task progress a = record a { by_task = a.by_task ++ progress ∷ [] }

-- The next task of a kind whose numbers are in their ranges is admitted, and is there: its home is the first processor that it may use.
abbrev pub AdmissionsAreTaken : Type 0
AdmissionsAreTaken =
    (d : Discipline) (w : World) (a : Accounts) (number home : ℕ) (kind : TaskKind) → AgreesWith w a → IsAdmissible (count_in w) (length a.by_task) home kind →
    IsTaken d w (Admit (length a.by_task) kind.nice kind.mask kind.slice) (λ r v. AgreesWith v (accounts_with_task (fresh_task number home kind.start) a))

-- the processor on which a task was placed takes in exactly that task
abbrev pub IsTakenIn : Discipline → Periods → Accounts → ℕ → Reply → World → Type 0
IsTakenIn d periods a now placed w =
    (to : ℕ) → placed_at placed ≡ Some to → IsTaken d w (Drain to now) (λ drained v. (count_entered drained ≡ 1) × AgreesWith v (after_event periods (Drain to now) drained a))

-- A wake of a task that sleeps is taken: it begins, it ends, and the task is taken in where it was placed.
abbrev pub WakesAreTaken : Type 0
WakesAreTaken =
    (d : Discipline) (periods : Periods) (w : World) (a : Accounts) (from task now : ℕ) (progress : TaskProgress) → AgreesWith w a → from < count_in w →
    slice_get a.by_task task ≡ Some progress → can_run progress.task_state ≡ false →
    IsTaken d w (BeginWake from task) (λ begun v. IsTaken d v (EndWake from now) (IsTakenIn d periods (after_event periods (BeginWake from task) begun a) now))

-- the machine's world and what is kept of it agree
abbrev pub BookAgrees : Driver → Book → Type 0
BookAgrees d b = AgreesWith d.machine.world b.accounts

-- The accounts agree after each thing that is met, if they agreed before.
abbrev pub MeetingsAgree : Type 0
MeetingsAgree =
    (kinds : List TaskKind) (seed : ℕ) (periods : Periods) (d e : Driver) (b c : Book) (due : Due) (now : ℕ) (deeds : List Deed) (reported : Reported) →
    DeedsMeet due now deeds → DeedsLead kinds seed periods d b deeds reported e c → BookAgrees d b → BookAgrees e c

-- So the accounts agree at the end of each simulation, and wherever one has been followed to.
pub record SimulationsAgree : Type 0 where
  pub whole : (policies : List Accepted) (w : Workload) (reported : Reported) (s : IsSimulation policies w reported) → BookAgrees s.closing s.book
  pub begun : (policies : List Accepted) (w : Workload) (reported : Reported) (s : SimulationBegins policies w reported) → BookAgrees s.closing s.book

-- An event whose reading can be given, and which is not refused, fails only if memory runs out.
abbrev pub OnlyMemoryIsWanted : Type 0
OnlyMemoryIsWanted =
    (d : Driver) (event : Event) (why : DriveFault) → IsReadable d.now (reading_of_event event) → refusal d.machine.world event ≡ None → IsDriveFault d event why → why ≡ OutOfMemory

-- an event of a driver fails only if memory runs out
abbrev pub FailsForMemory : Driver → Event → Type 0
FailsForMemory d event = (why : DriveFault) → IsDriveFault d event why → why ≡ OutOfMemory

-- accounts agree with a driver's world, and its clocks can be given this instant
pub record IsDriverReady (d : Driver) (a : Accounts) (now : ℕ) : Type 0 where
  pub agrees : AgreesWith d.machine.world a
  pub reading : IsReadable d.now (Some now)

-- So a call of the loop fails only if memory runs out, provided that the accounts agree with the world and the instant can be read.
pub record CallsFailForMemory : Type 0 where
  pub draws : (d : Driver) → FailsForMemory d Draw
  pub installs : (d : Driver) (a : Accounts) (processor generation : ℕ) (policy : Accepted) → AgreesWith d.machine.world a → processor < count_in d.machine.world →
      (at_hook policy.hook (processor_at d.machine.world processor).hooks).generation < generation → generation ≤ d.machine.world.drawn →
      FailsForMemory d (Install processor policy.hook generation (Some policy))
  pub admissions : (d : Driver) (a : Accounts) (home : ℕ) (kind : TaskKind) → AgreesWith d.machine.world a →
      IsAdmissible (count_in d.machine.world) (length a.by_task) home kind → FailsForMemory d (Admit (length a.by_task) kind.nice kind.mask kind.slice)
  pub ticks : (d : Driver) (a : Accounts) (processor now : ℕ) → IsDriverReady d a now → processor < count_in d.machine.world → FailsForMemory d (Tick processor now)
  pub blocks : (d : Driver) (a : Accounts) (processor task now : ℕ) → AgreesBut task d.machine.world a → IsReadable d.now (Some now) → processor < count_in d.machine.world →
      runner_at a.by_processor processor ≡ Some task → FailsForMemory d (Block processor now)
  pub pulls : (d : Driver) (a : Accounts) (processor from now : ℕ) → IsDriverReady d a now → processor < count_in d.machine.world → from < count_in d.machine.world → processor ≢ from →
      FailsForMemory d (Pull processor from now)
  pub wakes : (d : Driver) (a : Accounts) (from task now : ℕ) (progress : TaskProgress) (why : DriveFault) → IsDriverReady d a now →
      from < count_in d.machine.world → slice_get a.by_task task ≡ Some progress → can_run progress.task_state ≡ false → IsWakeFault d from task now why → why ≡ OutOfMemory
  -- once a wake has placed its task, the task can be taken in
  pub drains : (d e : Driver) (a : Accounts) (from task to now : ℕ) (progress : TaskProgress) (reported : Reported) → IsDriverReady d a now →
      from < count_in d.machine.world → slice_get a.by_task task ≡ Some progress → can_run progress.task_state ≡ false → PlacesWoken d from task now to reported e → FailsForMemory e (Drain to now)

-- Each answer is of its event's kind.
abbrev pub AnswersFit : Type 0
AnswersFit = (d : Discipline) (w v : World) (event : Event) (calls : List CounterCall) (r : Reply) → WorldStep (by_programs d) w event calls (Ok r) v → IsAnswerTo event r

-- What comes next is not past, and nothing is past then.
abbrev pub NothingIsMissed : Type 0
NothingIsMissed = (end now time : ℕ) (a : Accounts) (due : Due) → end ≤ LATEST → IsOnTime now a → IsNextDue end a due time → (now ≤ time) × (time ≤ end) × IsOnTime time a

-- the task that runs at a processor by the accounts, if one does, runs nowhere else
abbrev pub RunsAlone : Accounts → ℕ → Type 0
RunsAlone a processor = (other task : ℕ) → runner_at a.by_processor processor ≡ Some task → runner_at a.by_processor other ≡ Some task → other ≡ processor

-- Nothing is past at an instant after what was done then: another task runs, as an answer says; a clock beats; a processor looks.
pub record StaysOnTime : Type 0 where
  pub switched_on_time : (periods : Periods) (now processor : ℕ) (run : Option ℕ) (v : World) (a : Accounts) (state : ProcessorState) →
      1 ≤ periods.tick → slice_get a.by_processor processor ≡ Some state → RunsAlone a processor → AgreesWith v (accounts_switched processor run now periods a) → IsOnTime now a →
      IsOnTime now (accounts_switched processor run now periods a)
  pub beaten_on_time : (now processor tick : ℕ) (a : Accounts) → 1 ≤ tick → is_busy a processor ≡ true → IsOnTime now a → IsOnTime now (beaten processor now tick a)
  pub looked_on_time : (now processor balance : ℕ) (a : Accounts) → 1 ≤ balance → IsOnTime now a → IsOnTime now (looked processor now balance a)

-- If accounts agree with a world, each task runs at one processor only.
abbrev pub TasksRunAlone : Type 0
TasksRunAlone = (w : World) (a : Accounts) (processor : ℕ) → AgreesWith w a → RunsAlone a processor

-- Nothing is past after a thing that is met, if nothing was before, and world and accounts agreed.
abbrev pub MeetingsAreOnTime : Type 0
MeetingsAreOnTime =
    (kinds : List TaskKind) (seed : ℕ) (periods : Periods) (d e : Driver) (b c : Book) (due : Due) (now : ℕ) (deeds : List Deed) (reported : Reported) →
    1 ≤ periods.tick → 1 ≤ periods.balance → now ≤ LATEST → DeedsMeet due now deeds →
    DeedsLead kinds seed periods d b deeds reported e c → BookAgrees d b → IsOnTime now b.accounts → IsOnTime now c.accounts
