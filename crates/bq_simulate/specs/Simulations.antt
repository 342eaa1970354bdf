-- What a simulation tells.
use Rattle.std.specs.Prelude.{◌≡◌, ◌⊎◌, ℕ, ◌++◌, ◌+◌, ◌-◌, ◌^◌, ◌≤◌, Bool, true, List, [], ◌∷◌, Option, Some, None, length, slice_get, slice_set}
use Rattle.rand_pcg.specs.Lcg.{Lcg}
use Rattle.bq_workload.specs.declared.action.Length.{Length}
use Rattle.bq_workload.specs.declared.periods.Periods.{Periods}
use Rattle.bq_workload.specs.declared.roster.Roster.{Roster}
use Rattle.bq_workload.specs.declared.setup.Setup.{Setup}
use Rattle.bq_workload.specs.declared.workload.TaskKind.{TaskKind}
use Rattle.bq_workload.specs.declared.workload.Workload.{Workload}
use Rattle.bq_workload.specs.Streams.{stream_of_task, after_draw, after_draws}
pub use Rattle.bq_verify.specs.Accepted.{Accepted}
use Rattle.bq_words.specs.Sizes.{processors_in}
use Rattle.bq_trace.specs.TraceEvents.{Reported, Gets}
use Rattle.bq_simulate.specs.declared.driver.Driver.{Driver}
use Rattle.bq_simulate.specs.Drives.{Starts, Drives, SinkTakes}
use Rattle.bq_workload.specs.Accounts.{accounts_of, is_over, opening_accounts}
use Rattle.bq_simulate.specs.declared.simulation.Simulation.{Simulation}
use Rattle.bq_simulate.specs.declared.acting.Doing.{Doing}
use Rattle.bq_simulate.specs.Actions.{IsTaskOfKind, aim_in, first_task_of, next_length, kind_start}
use Rattle.bq_workload.specs.Bounds.{most_steps}
use Rattle.bq_workload.specs.Next.{IsAgreed, NothingComes, StaysAgreed}
use Rattle.bq_simulate.specs.Deeds.{Book, Deed, DeedsLead, after_deeds, events_of}
use Rattle.bq_simulate.specs.Steps.{AreAllMet, AreJustEvents, AreMet, IsAct, IsJoin, Opens, last_ticks}

-- a workload with another seed
abbrev pub with_seed : Workload → ℕ → Workload
with_seed w seed = record w { machine = record w.machine { seed = seed } }

-- no task is there, and nothing runs
abbrev pub opening_book : Setup → Book
opening_book machine = record { accounts = opening_accounts (processors_in machine.size) machine.balance; drawn = [] }

-- when a machine's simulation ends, the times between its ticks and between its looks, and what a change of processor costs
abbrev pub periods_of : Setup → Periods
periods_of machine = record { end = machine.duration; tick = machine.tick; balance = machine.balance; migration_cost = machine.migration_cost }

-- an opening, in which these policies are installed and all tasks admitted; then at most `most` things come due until the end.
-- Each is the first by the accounts, and calls for its own deeds
pub record Proceeds (policies : List Accepted) (processors : ℕ) (kinds : List TaskKind) (seed : ℕ) (periods : Periods) (most end : ℕ) (b : Book) (deeds : List Deed) : Type 0 where
  pub opening : List Deed
  pub met : List Deed
  pub whole : deeds ≡ opening ++ met
  pub opens : Opens policies processors kinds opening
  pub meets : AreMet kinds seed periods most end (after_deeds kinds seed periods b opening) met

-- a simulation proceeds, and exactly this many things come due
abbrev pub ProceedsBy : List Accepted → ℕ → List TaskKind → ℕ → Periods → ℕ → ℕ → Book → List Deed → Type 0
ProceedsBy policies processors kinds seed periods count end b deeds =
    (proceeds : Proceeds policies processors kinds seed periods count end b deeds) × (length proceeds.meets.steps ≡ count)

-- what opens the simulation of a workload and then comes due in it until its end, as many things at most as its bound counts
abbrev pub ProceedsIn : List Accepted → Workload → ℕ → Periods → Book → List Deed → Type 0
ProceedsIn policies w seed periods = Proceeds policies (processors_in w.machine.size) w.tasks.items seed periods (most_steps w) w.machine.duration

-- a simulation proceeds until as many things came due as it counts at most
abbrev pub ProceedsOut : List Accepted → Workload → ℕ → Periods → Book → List Deed → Type 0
ProceedsOut policies w seed periods = ProceedsBy policies (processors_in w.machine.size) w.tasks.items seed periods (most_steps w) w.machine.duration

-- when nothing comes any more, and no timer, no end of a phase, no tick and no look for a task is left until the end, each processor
-- ticks then, by number, and nothing else is done
pub record SimulationEnds (policies : List Accepted) (w : Workload) (d : Driver) (deeds : List Deed) : Type 0 where
  pub until : List Deed
  pub last : List Deed
  pub whole : deeds ≡ until ++ last
  pub proceeds : ProceedsIn policies w w.machine.seed (periods_of w.machine) (opening_book w.machine) until
  pub reported : Reported
  pub driver : Driver
  pub book : Book
  pub leads : DeedsLead w.tasks.items w.machine.seed (periods_of w.machine) d (opening_book w.machine) until reported driver book
  pub none : NothingComes w.machine.duration book.accounts
  pub over : is_over w.machine.duration book.accounts ≡ true
  pub ticks : AreJustEvents (last_ticks w.machine.duration (processors_in w.machine.size)) last

-- It makes the machine that the workload asks for, with these policies at all processors. Then events are done one after
-- another; none is refused, and readings never fall. So it is the trace of those events, with their answers, and the answers say
-- which task has run and how long. Each task does the actions of its kind in their order, over and over. It goes on only when it
-- has got exactly the length of its run phase and the costs of its changes of processor. Its timer wakes it exactly when its
-- sleep has lasted its length, and first at the start of its kind. Each length is the next of its task. A processor that runs
-- something ticks exactly at multiples of the time between two ticks. If there are other processors, each looks for a task at
-- multiples of the time between two looks and when it falls idle, and pulls one from the processor with the most tasks. All is
-- done when something comes due, except for what opens the simulation and the ticks at its end. What is met is, by the accounts
-- before it, the first that comes: by time, at one instant by kind, and of one kind by number. When it ends, no timer, no end of
-- a phase, no tick and no look is left that comes until the end, and each processor ticks at the end.
pub record IsSimulation (policies : List Accepted) (w : Workload) (reported : Reported) : Type 0 where
  pub opening : Driver
  pub closing : Driver
  pub deeds : List Deed
  pub book : Book
  pub first : Reported
  pub more : Reported
  pub starts : Starts w.machine.discipline w.machine.size first opening
  pub drives : Drives opening (events_of deeds) more closing
  pub leads : DeedsLead w.tasks.items w.machine.seed (periods_of w.machine) opening (opening_book w.machine) deeds more closing book
  pub whole : reported ≡ first ++ more
  pub ends : SimulationEnds policies w opening deeds

-- The beginning of a simulation: its machine is made, all that opens it is done, and then some of what comes due, as in a
-- simulation that goes to its end.
pub record SimulationBegins (policies : List Accepted) (w : Workload) (reported : Reported) : Type 0 where
  pub opening : Driver
  pub closing : Driver
  pub deeds : List Deed
  pub book : Book
  pub first : Reported
  pub more : Reported
  pub starts : Starts w.machine.discipline w.machine.size first opening
  pub drives : Drives opening (events_of deeds) more closing
  pub leads : DeedsLead w.tasks.items w.machine.seed (periods_of w.machine) opening (opening_book w.machine) deeds more closing book
  pub whole : reported ≡ first ++ more
  pub proceeds : ProceedsIn policies w w.machine.seed (periods_of w.machine) (opening_book w.machine) deeds

-- A simulation that is too long: it begins, and then 2 ^ 64 - 1 things come due, one after another, as many as 64 bits count.
pub record IsTooLong (policies : List Accepted) (w : Workload) (reported : Reported) : Type 0 where
  pub begins : SimulationBegins policies w reported
  pub many : length begins.proceeds.meets.steps ≡ 2 ^ 64 - 1

-- a whole simulation; or, if the sink has enough, the beginning of one
abbrev pub IsFollowed : Bool → List Accepted → Workload → Reported → Type 0
IsFollowed enough policies w reported = IsSimulation policies w reported ⊎ ((enough ≡ true) × SimulationBegins policies w reported)

-- a sink has enough, and got events of which this holds
abbrev pub HasEnough : {S : Type 0} → SinkTakes S → (S → Bool) → (Reported → Type 0) → S → S → Type 0
HasEnough takes has_enough Holds old new = (has_enough new ≡ true) × Gets takes old new Holds

-- the streams of the tasks from this number on, each after this many draws
abbrev pub streams_after : ℕ → ℕ → List ℕ → List Lcg
streams_after seed task [] = []
streams_after seed task (draws ∷ more) = after_draws draws (stream_of_task seed task) ∷ streams_after seed (task + 1) more

-- the streams of the tasks have given as many lengths as these numbers say
abbrev pub HasDrawn : Simulation → List ℕ → Type 0
HasDrawn s drawn = s.streams.items ≡ streams_after s.seed 0 drawn

-- each first task that is kept is the first of its kind
abbrev pub HasFirsts : List TaskKind → Simulation → Type 0
HasFirsts kinds s = (number first : ℕ) → slice_get s.firsts.items number ≡ Some first → first ≡ first_task_of kinds number

-- the first tasks of as many kinds are kept at least
abbrev pub KeepsAsManyFirsts : Simulation → Simulation → Type 0
KeepsAsManyFirsts s t = length s.firsts.items ≤ length t.firsts.items

-- what is kept by a simulation, and how many lengths its streams have given
abbrev pub book_of : Simulation → List ℕ → Book
book_of s drawn = record { accounts = accounts_of s.roster; drawn = drawn }

-- a simulation, whose streams have given this many lengths, goes on by some deeds of which this holds, and which are reported to a sink
pub record GoesByDeeds {S : Type 0} (takes : SinkTakes S) (kinds : List TaskKind) (Are : List Deed → Type 0)
    (old : S) (s : Simulation) (drawn : List ℕ) (new : S) (t : Simulation) : Type 0 where
  pub deeds : List Deed
  pub after : List ℕ
  pub periods : t.roster.periods ≡ s.roster.periods
  pub seed : t.seed ≡ s.seed
  pub streams : HasDrawn t after
  pub firsts : HasFirsts kinds t
  pub begun : KeepsAsManyFirsts s t
  pub agrees : StaysAgreed s.roster t.roster
  pub reports : Gets takes old new (λ reported. DeedsLead kinds s.seed s.roster.periods s.driver (book_of s drawn) deeds reported t.driver (book_of t after))
  pub are : Are deeds

-- from a state whose streams and firsts are right, the simulation goes on by deeds of this sort, and reports them to the sink
abbrev pub GoesOnBy : {S : Type 0} → SinkTakes S → List TaskKind → (List Deed → Type 0) → S → Simulation → S → Simulation → Type 0
GoesOnBy takes kinds Are old s new t = (drawn : List ℕ) → HasDrawn s drawn → HasFirsts kinds s → GoesByDeeds takes kinds Are old s drawn new t

-- if its event queue agrees with its accounts, the simulation goes on by deeds of this sort, by what was kept
abbrev pub GoesOnFromBook : {S : Type 0} → SinkTakes S → List TaskKind → (Book → List Deed → Type 0) → S → Simulation → S → Simulation → Type 0
GoesOnFromBook takes kinds Are old s new t = (drawn : List ℕ) → HasDrawn s drawn → HasFirsts kinds s → IsAgreed s.roster → GoesByDeeds takes kinds (Are (book_of s drawn)) old s drawn new t

-- it goes on by deeds of this sort, whatever the kinds of its tasks: what tasks do has no part in it
abbrev pub GoesOnForAnyKinds : {S : Type 0} → SinkTakes S → (List Deed → Type 0) → S → Simulation → S → Simulation → Type 0
GoesOnForAnyKinds takes Are old s new t = (kinds : List TaskKind) → GoesOnBy takes kinds Are old s new t

-- it goes on by deeds of this sort, by the kinds of its tasks, whatever they are
abbrev pub GoesOnByKinds : {S : Type 0} → SinkTakes S → (List TaskKind → List Deed → Type 0) → S → Simulation → S → Simulation → Type 0
GoesOnByKinds takes Are old s new t = (kinds : List TaskKind) → GoesOnBy takes kinds (Are kinds) old s new t

-- it goes on by deeds of which nothing is reported
pub record GoesByUnreportedDeeds (kinds : List TaskKind) (Are : List Deed → Type 0) (s : Simulation) (drawn : List ℕ) (t : Simulation) : Type 0 where
  pub deeds : List Deed
  pub after : List ℕ
  pub periods : t.roster.periods ≡ s.roster.periods
  pub seed : t.seed ≡ s.seed
  pub streams : HasDrawn t after
  pub firsts : HasFirsts kinds t
  pub begun : KeepsAsManyFirsts s t
  pub agrees : StaysAgreed s.roster t.roster
  pub leads : DeedsLead kinds s.seed s.roster.periods s.driver (book_of s drawn) deeds [] t.driver (book_of t after)
  pub are : Are deeds

-- from a state whose streams and firsts are right, the simulation goes on by deeds of this sort, and reports nothing
abbrev pub GoesOnUnreported : List TaskKind → (List Deed → Type 0) → Simulation → Simulation → Type 0
GoesOnUnreported kinds Are s t = (drawn : List ℕ) → HasDrawn s drawn → HasFirsts kinds s → GoesByUnreportedDeeds kinds Are s drawn t

-- a task takes up its next action, as `doing` says
abbrev pub TakesUpAction : List TaskKind → ℕ → ℕ → Simulation → Simulation → Doing → Type 0
TakesUpAction kinds processor now s t doing = GoesOnUnreported kinds (IsAct processor doing.task now doing.action (aim_in kinds doing)) s t

-- the kind with this number begins, and no deed is done: if each task has a stream, and all tasks of the kinds before it are there
abbrev pub BeginsKind : ℕ → Simulation → Simulation → Type 0
BeginsKind number s t = (kinds : List TaskKind) → length s.streams.items ≡ first_task_of kinds number → GoesOnUnreported kinds (AreJustEvents []) s t

-- one more task is there, with this home, of a kind that starts then: if it is the next of its kind, and each task has a stream
abbrev pub JoinsNext : ℕ → ℕ → ℕ → Simulation → Simulation → Type 0
JoinsNext kind home start s t =
    (kinds : List TaskKind) → IsTaskOfKind kinds (length s.roster.by_task.items) kind → start ≡ kind_start kinds kind →
    length s.streams.items ≡ length s.roster.by_task.items → GoesOnUnreported kinds (IsJoin kind home) s t

-- if the event queue of a roster agrees with its accounts, nothing comes until the end
abbrev pub NothingIsDue : Roster → Type 0
NothingIsDue r = IsAgreed r → NothingComes r.periods.end (accounts_of r)

-- a simulation goes on until no timer, no end of a phase, no tick and no look is left, and then each processor ticks at the end
pub record RunsToLastTicks {S : Type 0} (takes : SinkTakes S) (policies : List Accepted) (kinds : List TaskKind) (most end processors : ℕ)
    (old : S) (s : Simulation) (new : S) (t : Simulation) : Type 0 where
  pub sink : S
  pub ended : Simulation
  pub proceeds : GoesOnFromBook takes kinds (Proceeds policies processors kinds s.seed s.roster.periods most end) old s sink ended
  pub nothing_due : NothingIsDue ended.roster
  pub over : is_over end (accounts_of ended.roster) ≡ true
  pub ticks : GoesOnBy takes kinds (AreJustEvents (last_ticks end processors)) sink ended new t

-- the simulation of a workload is opened, and goes on by some of what comes due in it until its end
abbrev pub HasProceeded : {S : Type 0} → SinkTakes S → List Accepted → Workload → S → Simulation → S → Simulation → Type 0
HasProceeded takes policies w old s new t = GoesOnFromBook takes w.tasks.items (ProceedsIn policies w s.seed s.roster.periods) old s new t

-- it goes on to its end, or until the sink has enough
abbrev pub RunsToEndOrEnough : {S : Type 0} → SinkTakes S → (S → Bool) → List Accepted → Workload → S → Simulation → S → Simulation → Type 0
RunsToEndOrEnough takes has_enough policies w old s new t =
    RunsToLastTicks takes policies w.tasks.items (most_steps w) w.machine.duration (processors_in w.machine.size) old s new t
    ⊎ ((has_enough new ≡ true) × HasProceeded takes policies w old s new t)

-- it goes on until as many things have come due as its bound for all instants until its end, as far as 64 bits count
abbrev pub ComesToBound : {S : Type 0} → SinkTakes S → List Accepted → Workload → S → Simulation → S → Simulation → Type 0
ComesToBound takes policies w old s new t = GoesOnFromBook takes w.tasks.items (ProceedsOut policies w s.seed s.roster.periods) old s new t

-- it goes on by what comes due until its end; at most this many things come due
abbrev pub RunsToEnd : {S : Type 0} → SinkTakes S → Workload → ℕ → S → Simulation → S → Simulation → Type 0
RunsToEnd takes w most old s new t = GoesOnFromBook takes w.tasks.items (AreMet w.tasks.items s.seed s.roster.periods most w.machine.duration) old s new t

-- it goes on until exactly this many things have come due
abbrev pub RunsToLimit : {S : Type 0} → SinkTakes S → Workload → ℕ → S → Simulation → S → Simulation → Type 0
RunsToLimit takes w count old s new t = GoesOnFromBook takes w.tasks.items (AreAllMet w.tasks.items s.seed s.roster.periods count w.machine.duration) old s new t

-- what stays beside the machine and the accounts, and that the event queue agrees with them
pub record SimulationStays (s t : Simulation) : Type 0 where
  pub agrees : StaysAgreed s.roster t.roster
  pub periods : t.roster.periods ≡ s.roster.periods
  pub seed : t.seed ≡ s.seed
  pub streams : t.streams ≡ s.streams
  pub firsts : t.firsts ≡ s.firsts

-- nothing was done but to plan or to count
pub record OnlyPlansOrCounts (s t : Simulation) : Type 0 where
  pub driver : t.driver ≡ s.driver
  pub accounts : accounts_of t.roster ≡ accounts_of s.roster
  pub stays : SimulationStays s t

-- a length is drawn for a task, and nothing else is done
pub record DrawsLength (task : ℕ) (asked : Length) (s : Simulation) (length : ℕ) (t : Simulation) : Type 0 where
  pub stream : Lcg
  pub there : slice_get s.streams.items task ≡ Some stream
  pub value : length ≡ next_length asked stream
  pub next : t.streams.items ≡ slice_set s.streams.items task (after_draw stream)
  pub driver : t.driver ≡ s.driver
  pub roster : t.roster ≡ s.roster
  pub seed : t.seed ≡ s.seed
  pub firsts : t.firsts ≡ s.firsts

-- the next length is drawn if a length is asked for; otherwise the length is 0 and nothing changes
abbrev pub DrawsFor : ℕ → Option Length → Simulation → ℕ → Simulation → Type 0
DrawsFor task None s length t = (length ≡ 0) × (t ≡ s)
DrawsFor task (Some asked) s length t = DrawsLength task asked s length t
