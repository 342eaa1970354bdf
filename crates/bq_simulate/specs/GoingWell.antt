-- A simulation that goes well: the conditions under which its calls fail only if memory runs out.
use Rattle.std.specs.Prelude.{◌≡◌, ◌≢◌, ◌⊎◌, ◌<◌, ◌≤◌, ◌+◌, ◌*◌, ◌^◌, ℕ, true, List, Option, None, Some, length, slice_get}
use Rattle.bq_disc.specs.declared.limits.TheConstants.{PROCESSORS}
use Rattle.bq_parts.specs.World.{World, count_in}
use Rattle.bq_verify.specs.Accepted.{Accepted}
use Rattle.bq_words.specs.Sizes.{processors_in}
use Rattle.bq_trace.specs.TraceEvents.{Gets}
use Rattle.bq_workload.specs.declared.action.Action.{Action}
use Rattle.bq_workload.specs.declared.action.Action.TheVariants.{Run, Wake}
use Rattle.bq_workload.specs.declared.due.Due.{Due}
use Rattle.bq_workload.specs.declared.progress.TaskProgress.{TaskProgress}
use Rattle.bq_workload.specs.declared.workload.TaskKind.{TaskKind}
use Rattle.bq_workload.specs.declared.workload.Workload.{Workload}
use Rattle.bq_workload.specs.declared.periods.Periods.{Periods}
use Rattle.bq_workload.specs.Accounts.{Accounts, accounts_of}
use Rattle.bq_workload.specs.Bounds.{steps_at_once}
use Rattle.bq_workload.specs.Kinds.{kind_count}
use Rattle.bq_workload.specs.Next.{IsAgreed, IsNextDue}
use Rattle.bq_workload.specs.Soundness.{first_flaw}
use Rattle.bq_workload.specs.Strays.{IsStrayPass, IsStraySwitch}
use Rattle.bq_simulate.specs.declared.driver.Driver.{Driver}
use Rattle.bq_simulate.specs.declared.fault.SimulateFault.{SimulateFault}
use Rattle.bq_simulate.specs.declared.fault.SimulateFault.TheVariants.{TooManySteps, Enough, OutOfMemory}
use Rattle.bq_simulate.specs.declared.simulation.Simulation.{Simulation}
use Rattle.bq_simulate.specs.Actions.{first_task_of}
use Rattle.bq_simulate.specs.Agreement.{AgreesBut, AgreesWith, IsOnTime, runner_at}
use Rattle.bq_simulate.specs.Deeds.{Book, is_busy, accounts_pulled}
use Rattle.bq_simulate.specs.Drives.{SinkTakes}
use Rattle.bq_simulate.specs.Kept.{HasAllFirsts, IsKept, IsNewerFrom, StandAtActions, WereDrawn}
use Rattle.bq_simulate.specs.Simulations.{HasDrawn, HasFirsts, IsTooLong, book_of, periods_of}

-- The simulation of a workload without flaws has come to an instant until its end, and all is kept: by its machine, its
-- accounts, its event queue, the streams of its tasks and the first task of each kind.
pub record SimulationGoesWell (w : Workload) (now : ℕ) (s : Simulation) : Type 0 where
  pub sound : first_flaw w ≡ None
  pub until : now ≤ w.machine.duration
  pub periods : s.roster.periods ≡ periods_of w.machine
  pub drawn : List ℕ
  pub streams : HasDrawn s drawn
  pub firsts : HasFirsts w.tasks.items s
  pub all_firsts : HasAllFirsts w.tasks.items s
  pub kept : IsKept w.tasks.items now s.driver (book_of s drawn)
  pub agreed : IsAgreed s.roster

-- the simulation goes well at some instant
pub record HasGoneWell (w : Workload) (s : Simulation) : Type 0 where
  pub now : ℕ
  pub well : SimulationGoesWell w now s

-- the simulation has been opened, and goes well at instant 0
abbrev pub HasOpenedWell : Workload → Simulation → Type 0
HasOpenedWell w s = SimulationGoesWell w 0 s

-- if the simulation goes well until an instant, and this comes due next, at that instant, then `Then` holds
abbrev pub IfNextDue : Workload → Due → ℕ → Simulation → Type 0 → Type 0
IfNextDue w due now s Then = SimulationGoesWell w now s → IsNextDue w.machine.duration (accounts_of s.roster) due now → Then

-- if the simulation goes well until an instant, a task runs at the processor, and a task of the kind is left that it has not woken,
-- then `Then` holds
abbrev pub IfTaskLeft : Workload → ℕ → ℕ → ℕ → ℕ → Simulation → Type 0 → Type 0
IfTaskLeft w processor kind woken now s Then =
    SimulationGoesWell w now s → is_busy (accounts_of s.roster) processor ≡ true → woken < kind_count w.tasks.items kind → Then

-- a simulation has as many processors as its workload says
abbrev pub HasProcessors : Workload → Simulation → Type 0
HasProcessors w s = length s.roster.by_processor.items ≡ processors_in w.machine.size

-- The task that runs at a processor goes to sleep now: its accounts say so already, and the machine's world not yet. All else is
-- as in a simulation that goes well.
pub record FallsAsleep (w : Workload) (now processor : ℕ) (s : Simulation) : Type 0 where
  pub sound : first_flaw w ≡ None
  pub until : now ≤ w.machine.duration
  pub periods : s.roster.periods ≡ periods_of w.machine
  pub few : count_in s.driver.machine.world ≤ PROCESSORS
  pub read : s.driver.now ≤ now
  pub on_time : IsOnTime now (accounts_of s.roster)
  pub task : ℕ
  pub runs : runner_at s.roster.by_processor.items processor ≡ Some task
  pub agrees : AgreesBut task s.driver.machine.world (accounts_of s.roster)
  pub agreed : IsAgreed s.roster

-- What must hold for the event that an action calls for. For a wake: the simulation is in a good state, the waker runs, and a
-- task is left that it has not woken. For a sleep, a wait or the end: the task is falling asleep. For a run: nothing.
abbrev pub CanFollow : Workload → Option Action → TaskProgress → ℕ → ℕ → Simulation → Type 0
CanFollow w (Some (Run asked)) progress processor now s = Unit {0}
CanFollow w (Some (Wake kind)) progress processor now s = SimulationGoesWell w now s × (is_busy (accounts_of s.roster) processor ≡ true) × (progress.woken < kind_count w.tasks.items kind)
CanFollow w action progress processor now s = FallsAsleep w now processor s

-- two processors, both of which a simulation has
abbrev pub HasBoth : ℕ → ℕ → Simulation → Type 0
HasBoth processor other s = (processor < length s.roster.by_processor.items) × (other < length s.roster.by_processor.items) × (processor ≢ other)

-- a task is of no kind, or its action wakes the tasks of none
abbrev pub IsStrayAction : List TaskKind → TaskProgress → Option Action → Type 0
IsStrayAction kinds progress action = (slice_get kinds progress.kind ≡ None) ⊎ ((number : ℕ) × (action ≡ Some (Wake number)) × (slice_get kinds number ≡ None))

-- a pull cannot be recorded: a task was taken and does not pass from one queue to the other, or the switch fails
abbrev pub IsStrayPull : Periods → ℕ → ℕ → Option ℕ → Option ℕ → ℕ → Accounts → Type 0
IsStrayPull periods processor from task run now a =
    ((task ≢ None) × IsStrayPass from processor a) ⊎ IsStraySwitch periods processor run now (accounts_pulled from processor task a)

-- A simulation that opens, at instant 0, with this many processors and this many tasks until now: the accounts agree with the
-- machine's world, and nothing in them is past.
pub record IsOpening (processors tasks : ℕ) (d : Driver) (b : Book) : Type 0 where
  pub agree : AgreesWith d.machine.world b.accounts
  pub on_time : IsOnTime 0 b.accounts
  pub read : d.now ≡ 0
  pub processors_there : count_in d.machine.world ≡ processors
  pub tasks_there : length b.accounts.by_task ≡ tasks

-- The simulation of a workload without flaws opens, with this many tasks until now, each of which is counted.
pub record OpensWell (w : Workload) (tasks : ℕ) (s : Simulation) : Type 0 where
  pub sound : first_flaw w ≡ None
  pub periods : s.roster.periods ≡ periods_of w.machine
  pub drawn : List ℕ
  pub streams : HasDrawn s drawn
  pub firsts : HasFirsts w.tasks.items s
  pub opening : IsOpening (processors_in w.machine.size) tasks s.driver (book_of s drawn)
  pub standing : StandAtActions w.tasks.items (book_of s drawn)
  pub counted : s.counts.tasks ≡ tasks
  pub agreed : IsAgreed s.roster

-- all tasks of the kinds before this one are there
abbrev pub OpensBefore : Workload → ℕ → Simulation → Type 0
OpensBefore w number s = OpensWell w (first_task_of w.tasks.items number) s

-- this many generations were drawn, and each one at a hook is one of them
pub record HasGenerations (count : ℕ) (w : World) : Type 0 where
  pub many : w.drawn ≡ count
  pub were : WereDrawn w

-- in its machine this many generations were drawn, and this one is newer than each one at a hook
abbrev pub HasNewer : ℕ → ℕ → Simulation → Type 0
HasNewer count generation s = HasGenerations count s.driver.machine.world × IsNewerFrom 0 generation s.driver.machine.world

-- if the simulation opens well and has no task yet, the generation is newer than each one at a hook, and these are all processors
-- of the workload, then `Then` holds
abbrev pub IfNewer : ℕ → ℕ → Simulation → Type 0 → Type 0
IfNewer processors generation s Then =
    (w : Workload) (count : ℕ) → OpensWell w 0 s → HasNewer count generation s → processors ≡ processors_in w.machine.size → Then

-- nothing of it was done yet: there are no tasks and no kinds, and no generation was drawn
pub record StartsWell (w : Workload) (s : Simulation) : Type 0 where
  pub opens : OpensWell w 0 s
  pub none : length s.firsts.items ≡ 0
  pub generations : HasGenerations 0 s.driver.machine.world

-- a fault is that memory ran out, which says nothing of the workload
abbrev pub WantsMemory : SimulateFault → Type 0
WantsMemory why = why ≡ OutOfMemory

-- 2 ^ 64 - 1 things came due, and 64 bits do not count the bound of its steps
abbrev pub HasTooManySteps : Workload → SimulateFault → Type 0
HasTooManySteps w why = (why ≡ TooManySteps) × (2 ^ 64 ≤ (w.machine.duration + 1) * steps_at_once w)

-- memory ran out, or the most things came due and 64 bits do not count the bound of its steps
abbrev pub EndsEarly : Workload → SimulateFault → Type 0
EndsEarly w why = (why ≡ OutOfMemory) ⊎ HasTooManySteps w why

-- this holds if the fault is that there are too many steps
abbrev pub IfTooManySteps : Type 0 → SimulateFault → Type 0
IfTooManySteps Holds why = why ≡ TooManySteps → Holds

-- if the fault is that there are too many steps, a sink got a simulation that is too long
abbrev pub GetsIfTooLong : {S : Type 0} → SinkTakes S → List Accepted → Workload → S → S → SimulateFault → Type 0
GetsIfTooLong takes policies w old new = IfTooManySteps (Gets takes old new (IsTooLong policies w))

-- memory ran out, or the sink has enough, or the most things came due and 64 bits do not count the bound of its steps
abbrev pub IsCutOff : Workload → SimulateFault → Type 0
IsCutOff w why = (why ≡ OutOfMemory) ⊎ ((why ≡ Enough) ⊎ HasTooManySteps w why)
