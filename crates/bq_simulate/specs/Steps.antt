-- What comes due in a simulation, and what is done then.
use Rattle.std.specs.Prelude.{◌≡◌, ◌⊎◌, ◌<◌, ◌≤◌, ◌+◌, ℕ, true, zero, suc, List, [], ◌∷◌, ◌++◌, Option, None, Some, length, map}
use Rattle.std.specs.List.{flat_map, range_with_len}
use Rattle.bq_disc.specs.declared.limits.TheConstants.{TASKS}
use Rattle.bq_workload.specs.declared.action.Action.{Action}
use Rattle.bq_workload.specs.declared.action.Action.TheVariants.{Run, Wake}
use Rattle.bq_workload.specs.declared.due.Due.{Due}
use Rattle.bq_workload.specs.declared.workload.TaskKind.{TaskKind}
use Rattle.bq_workload.specs.declared.workload.Workload.{Workload}
use Rattle.bq_workload.specs.declared.due.Due.TheVariants as due
use Rattle.bq_parts.specs.declared.event.Event.{Event}
use Rattle.bq_parts.specs.declared.event.Event.TheVariants.{Admit, Draw, Install, BeginWake, EndWake, Drain, Tick, Block, Pull}
use Rattle.bq_parts.specs.declared.reply.Reply.{Reply}
use Rattle.bq_parts.specs.declared.reply.Reply.TheVariants.{Drawn}
use Rattle.bq_verify.specs.Accepted.{Accepted}
use Rattle.bq_words.specs.Sizes.{processors_in}
use Rattle.bq_workload.specs.declared.periods.Periods.{Periods}
use Rattle.bq_workload.specs.Next.{IsNextDue}
use Rattle.bq_workload.specs.Soundness.{IsFirstAllowed, has_numbers}
use Rattle.bq_simulate.specs.Actions.{first_task_of}
use Rattle.bq_simulate.specs.Deeds.{Acts, Beats, Book, Deed, Happens, Joins, Looks, Misses, Reaches, Rings, after_deeds}
use Rattle.bq_simulate.specs.Drives.{placed_at}

-- these events happen, whatever their answers are, and nothing beside them
abbrev pub AreJustEvents : List Event → List Deed → Type 0
AreJustEvents [] deeds = deeds ≡ []
AreJustEvents (event ∷ events) deeds = (reply : Reply) × (more : List Deed) × (deeds ≡ Happens event reply ∷ more) × AreJustEvents events more

-- the numbers of this many processors
abbrev pub all_processors : ℕ → List ℕ
all_processors count = range_with_len 0 count

-- a policy is installed at its hook of each processor, by number, as a generation
abbrev pub installs_of : ℕ → ℕ → Accepted → List Event
installs_of processors generation policy = map (λ processor. Install processor policy.hook generation (Some policy)) (all_processors processors)

-- a generation is drawn, and a policy is installed as that generation
abbrev pub IsInstalled : ℕ → Accepted → List Deed → Type 0
IsInstalled processors policy deeds =
    (generation : ℕ) × (some : List Deed) × (deeds ≡ Happens Draw (Drawn generation) ∷ some) × AreJustEvents (installs_of processors generation policy) some

-- these policies are installed, one after another
abbrev pub AreInstalled : ℕ → List Accepted → List Deed → Type 0
AreInstalled processors [] deeds = deeds ≡ []
AreInstalled processors (policy ∷ policies) deeds =
    (some : List Deed) × (more : List Deed) × (deeds ≡ some ++ more) × IsInstalled processors policy some × AreInstalled processors policies more

-- a task is there, of the kind of this number and with this home
abbrev pub IsJoin : ℕ → ℕ → List Deed → Type 0
IsJoin number home deeds = deeds ≡ Joins number home ∷ []

-- with this many processors a task of this kind may be admitted with this number, and has this home
pub record IsAdmissible (processors task home : ℕ) (kind : TaskKind) : Type 0 where
  pub few : task < TASKS
  pub numbers : has_numbers kind ≡ true
  pub first : IsFirstAllowed processors kind.mask home

-- a task of a kind is admitted as its kind says, and is there; its home is the first processor that it may use
abbrev pub IsAdmission : ℕ → ℕ → TaskKind → ℕ → List Deed → Type 0
IsAdmission processors number kind task deeds =
    (reply : Reply) × (home : ℕ) × IsFirstAllowed processors kind.mask home
    × (deeds ≡ Happens (Admit task kind.nice kind.mask kind.slice) reply ∷ Joins number home ∷ [])

-- this many tasks of a kind are admitted, from this task on
abbrev pub AreAdmitted : ℕ → ℕ → TaskKind → ℕ → ℕ → List Deed → Type 0
AreAdmitted processors number kind task zero deeds = deeds ≡ []
AreAdmitted processors number kind task (suc count) deeds =
    (some : List Deed) × (more : List Deed) × (deeds ≡ some ++ more)
    × IsAdmission processors number kind task some × AreAdmitted processors number kind (task + 1) count more

-- all tasks of these kinds are admitted, kind by kind, from this kind and this task on
abbrev pub AreAllAdmitted : ℕ → ℕ → ℕ → List TaskKind → List Deed → Type 0
AreAllAdmitted processors number task [] deeds = deeds ≡ []
AreAllAdmitted processors number task (kind ∷ kinds) deeds =
    (some : List Deed) × (more : List Deed) × (deeds ≡ some ++ more)
    × AreAdmitted processors number kind task kind.count some × AreAllAdmitted processors (number + 1) (task + kind.count) kinds more

-- first these policies are installed, and then all tasks of these kinds are admitted
pub record Opens (policies : List Accepted) (processors : ℕ) (kinds : List TaskKind) (deeds : List Deed) : Type 0 where
  pub installs : List Deed
  pub admissions : List Deed
  pub whole : deeds ≡ installs ++ admissions
  pub installed : AreInstalled processors policies installs
  pub admitted : AreAllAdmitted processors 0 0 kinds admissions

-- the tasks of a workload are admitted, kind by kind
abbrev pub AreAdmissions : Workload → List Deed → Type 0
AreAdmissions w = AreAllAdmitted (processors_in w.machine.size) 0 0 w.tasks.items

-- all tasks of the kind with this number are admitted, after the tasks of the kinds before
abbrev pub AreKindAdmissions : Workload → ℕ → TaskKind → List Deed → Type 0
AreKindAdmissions w number kind = AreAdmitted (processors_in w.machine.size) number kind (first_task_of w.tasks.items number) kind.count

-- a task is woken from a processor, and the one on which the answer says that it was placed takes it in at the same instant
abbrev pub AreWake : ℕ → ℕ → ℕ → List Deed → Type 0
AreWake from task now deeds =
    (begun : Reply) × (placed : Reply) × (drained : Reply) × (to : ℕ) × (placed_at placed ≡ Some to)
    × (deeds ≡ Happens (BeginWake from task) begun ∷ Happens (EndWake from now) placed ∷ Happens (Drain to now) drained ∷ [])

-- the task that runs at a processor wakes this one from there if this one waits, and misses it otherwise
abbrev pub WakesTask : ℕ → ℕ → ℕ → List Deed → Type 0
WakesTask task processor now deeds = (deeds ≡ Misses task ∷ []) ⊎ ((more : List Deed) × (deeds ≡ Reaches task ∷ more) × AreWake processor task now more)

-- what follows an action at once: a task that runs on does nothing; one that wakes others wakes the one that it aims at, or
-- misses it; any other blocks
abbrev pub FollowsAction : Option Action → Option ℕ → ℕ → ℕ → List Deed → Type 0
FollowsAction (Some (Run asked)) aim processor now deeds = deeds ≡ []
FollowsAction (Some (Wake kind)) (Some task) processor now deeds = WakesTask task processor now deeds
FollowsAction (Some (Wake kind)) None processor now deeds = ⊥
FollowsAction action aim processor now deeds = AreJustEvents (Block processor now ∷ []) deeds

-- a task takes up its next action
abbrev pub IsAct : ℕ → ℕ → ℕ → Option Action → Option ℕ → List Deed → Type 0
IsAct processor task now action aim deeds = deeds ≡ Acts processor task now action aim ∷ []

-- a processor that has found one from which it pulls a task does so at once
abbrev pub pulls_of : ℕ → ℕ → Option ℕ → List Event
pulls_of processor now None = []
pulls_of processor now (Some from) = Pull processor from now ∷ []

-- what is done when something comes due
abbrev pub DeedsMeet : Due → ℕ → List Deed → Type 0
DeedsMeet (due.End processor) now deeds =
    (task : ℕ) × (action : Option Action) × (aim : Option ℕ) × (more : List Deed)
    × (deeds ≡ Acts processor task now action aim ∷ more) × FollowsAction action aim processor now more
DeedsMeet (due.Wake task) now deeds = (home : ℕ) × (more : List Deed) × (deeds ≡ Rings task now ∷ more) × AreWake home task now more
DeedsMeet (due.Tick processor) now deeds = (more : List Deed) × (deeds ≡ Beats processor now ∷ more) × AreJustEvents (Tick processor now ∷ []) more
DeedsMeet (due.Look processor) now deeds = (source : Option ℕ) × (more : List Deed) × (deeds ≡ Looks processor now source ∷ more) × AreJustEvents (pulls_of processor now source) more

-- something that comes due, when, and the deeds by which it is met
pub record MetDue : Type 0 where
  pub due : Due
  pub at : ℕ
  pub deeds : List Deed
  pub meet : DeedsMeet due at deeds

-- the deeds of some steps, one after another
abbrev pub deeds_of : List MetDue → List Deed
deeds_of steps = flat_map (λ (step : MetDue). step.deeds) steps

-- instants that never fall, from the first to the last of these two
abbrev pub InstantsRise : ℕ → List MetDue → ℕ → Type 0
InstantsRise first [] last = first ≤ last
InstantsRise first (step ∷ steps) last = (first ≤ step.at) × InstantsRise step.at steps last

-- each step is the next by the accounts before it: of all that comes until the end it is the first, by its time, at one instant
-- by its kind, and of one kind by its number
abbrev pub AreInOrder : List TaskKind → ℕ → Periods → Book → List MetDue → Type 0
AreInOrder kinds seed periods b [] = Unit {0}
AreInOrder kinds seed periods b (step ∷ steps) = IsNextDue periods.end b.accounts step.due step.at × AreInOrder kinds seed periods (after_deeds kinds seed periods b step.deeds) steps

-- starting from what is kept, at most this many things come due until an instant, one after another in their order
pub record AreMet (kinds : List TaskKind) (seed : ℕ) (periods : Periods) (most last : ℕ) (b : Book) (deeds : List Deed) : Type 0 where
  pub steps : List MetDue
  pub whole : deeds ≡ deeds_of steps
  pub rise : InstantsRise 0 steps last
  pub few : length steps ≤ most
  pub order : AreInOrder kinds seed periods b steps

-- exactly this many come due, and each is met
abbrev pub AreAllMet : List TaskKind → ℕ → Periods → ℕ → ℕ → Book → List Deed → Type 0
AreAllMet kinds seed periods count last b deeds = (met : AreMet kinds seed periods count last b deeds) × (length met.steps ≡ count)

-- each of this many processors ticks at the end, by number
abbrev pub last_ticks : ℕ → ℕ → List Event
last_ticks end processors = map (λ processor. Tick processor end) (all_processors processors)
