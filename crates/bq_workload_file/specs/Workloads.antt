-- What a document says of a machine and of its tasks.
use Rattle.std.specs.Prelude.{◌≡◌, ℕ, ◌-◌, ◌^◌, ◌<◌, ◌≤◌, ℤ, pos, true, List, [], ◌∷◌, ◌++◌, sum_by, Option, Some, None, IsSome, unwrap_or, length, option_map, option_and_then, codes, String, string_bytes}
use Rattle.std.specs.List.{list_any}
use Rattle.std.specs.Option.{IsSomeAnd}
use Rattle.std.specs.declared.alloc.Global.{Global}
use Rattle.toml.specs.Data.{Data, Items, no_items, item, Members, no_members, get_member, as_array, as_table}
use Rattle.toml.specs.Parse.{parse_document}
use Rattle.bq_disc.specs.declared.limits.TheConstants.{DEFAULT_SLICE, GREATEST_SLICE, LEAST_SLICE, TASKS}
use Rattle.bq_words.specs.Sizes.{processors_in}
use Rattle.bq_words.specs.declared.discipline_name.DisciplineName.TheVariants.{Cfs}
use Rattle.bq_words.specs.declared.processor_count.ProcessorCount.{ProcessorCount}
use Rattle.bq_words.specs.declared.processor_count.ProcessorCount.TheVariants.{One}
use Rattle.bq_workload.specs.Lengths.{longest, takes_time}
use Rattle.bq_workload.specs.declared.action.Action.{Action}
use Rattle.bq_workload.specs.declared.action.Action.TheVariants.{Run, Sleep}
use Rattle.bq_workload.specs.declared.setup.Setup.{Setup}
use Rattle.bq_workload.specs.declared.workload.TaskKind.{TaskKind}
use Rattle.bq_workload.specs.declared.workload.Workload.{Workload}
use Rattle.bq_workload_file.specs.declared.changes.Changes.{Changes}
use Rattle.bq_workload_file.specs.declared.fault.WorkloadFault.{WorkloadFault}
use Rattle.bq_workload_file.specs.declared.fault.WorkloadFault.TheVariants.{Syntax, Meaning, OutOfMemory}
use Rattle.bq_workload_file.specs.Fields.{or_default, span_in, number_in, discipline_in, size_in, loops_of, read_nice, read_mask, name_in_members}
use Rattle.bq_workload_file.specs.Keys.{document_keys, first_unknown, machine_keys, task_keys}
use Rattle.bq_workload_file.specs.Lengths.{read_length}
use Rattle.bq_workload_file.specs.Actions.{actions_with, named_at}
use Rattle.bq_workload_file.specs.Positions.{IsTextPlace}

-- a duration that takes time, at a key or else the default
abbrev pub time_at_key : ℕ → List ℕ → Members → Option ℕ
time_at_key default key ms = or_default default (span_in 1 longest) (get_member key ms)

-- the machine that a table describes, each of whose keys means something
pub record IsSetup (ms : Members) (s : Setup) : Type 0 where
  pub known : first_unknown machine_keys ms ≡ None
  pub discipline : or_default Cfs discipline_in (get_member (codes "discipline") ms) ≡ Some s.discipline
  pub size : or_default One size_in (get_member (codes "processors") ms) ≡ Some s.size
  pub duration : time_at_key 100000000 (codes "duration") ms ≡ Some s.duration
  pub tick : time_at_key 4000000 (codes "tick") ms ≡ Some s.tick
  pub balance : time_at_key 16000000 (codes "balance") ms ≡ Some s.balance
  pub migration_cost : or_default 0 (span_in 0 longest) (get_member (codes "migration_cost") ms) ≡ Some s.migration_cost
  pub seed : or_default 1 (number_in 0 9223372036854775807) (get_member (codes "seed") ms) ≡ Some s.seed

-- the machine with what is put in its place
abbrev pub changed_by : Changes → Setup → Setup
changed_by c s = record s {
  discipline = unwrap_or c.discipline s.discipline;
  size = unwrap_or c.size s.size;
  duration = unwrap_or c.duration s.duration;
  seed = unwrap_or c.seed s.seed;
}

-- a run, and a sleep if there is one
abbrev pub short_of : Option Data → Option Data → Option (List Action)
short_of None sleep = None
short_of (Some run) None = option_map (λ r. Run r ∷ []) (read_length run)
short_of (Some run) (Some sleep) = option_and_then (λ r. option_map (λ s. Run r ∷ Sleep s ∷ []) (read_length sleep)) (read_length run)

-- what a task does: only its `do`, or `run` and `sleep`
abbrev pub doing : List (String Global) → Option Data → Option Data → Option Data → Option (List Action)
doing names None run sleep = short_of run sleep
doing names (Some list) None None = option_and_then (actions_with names []) (as_array list)
doing names (Some list) run sleep = None

-- the actions of the tasks of a kind, by the kind's table
abbrev pub table_actions : List (String Global) → Members → Option (List Action)
table_actions names ms = doing names (get_member (codes "do") ms) (get_member (codes "run") ms) (get_member (codes "sleep") ms)

-- the numbers of a kind, on a machine with all these processors
pub record HasNumbers (all : ℕ) (ms : Members) (count : ℕ) (nice : ℤ) (mask slice start : ℕ) (loops : Option ℕ) : Type 0 where
  pub count_is : or_default 1 (number_in 1 TASKS) (get_member (codes "count") ms) ≡ Some count
  pub nice_is : or_default (pos 0) read_nice (get_member (codes "nice") ms) ≡ Some nice
  pub mask_is : or_default all (read_mask all) (get_member (codes "cpus") ms) ≡ Some mask
  pub slice_is : or_default DEFAULT_SLICE (span_in LEAST_SLICE GREATEST_SLICE) (get_member (codes "slice") ms) ≡ Some slice
  pub start_is : or_default 0 (span_in 0 longest) (get_member (codes "start") ms) ≡ Some start
  pub loops_is : loops_of (get_member (codes "loops") ms) ≡ Some loops

-- the kind of tasks that a table describes, each of whose keys means something
pub record IsKind (names : List (String Global)) (all : ℕ) (ms : Members) (k : TaskKind) : Type 0 where
  pub known : first_unknown task_keys ms ≡ None
  pub name : name_in_members ms ≡ Some (string_bytes k.name)
  pub numbers : HasNumbers all ms k.count k.nice k.mask k.slice k.start k.loops
  pub actions : table_actions names ms ≡ Some k.actions.items
  pub takes_time : list_any takes_time k.actions.items ≡ true

-- each table describes its kind
abbrev pub AreKinds : List (String Global) → ℕ → Items → List TaskKind → Type 0
AreKinds names all no_items [] = Unit {0}
AreKinds names all (item d ds) (k ∷ ks) = ((ms : Members) × (as_table d ≡ Some ms) × IsKind names all ms k) × AreKinds names all ds ks
AreKinds names all other kinds = ⊥

-- the name that a task's table has
abbrev pub name_in_table : Data → Option (List ℕ)
name_in_table d = option_and_then name_in_members (as_table d)

-- each table has its name
abbrev pub AreTableNames : Items → List (String Global) → Type 0
AreTableNames no_items [] = Unit {0}
AreTableNames (item d ds) (name ∷ names) = (name_in_table d ≡ Some (string_bytes name)) × AreTableNames ds names
AreTableNames other names = ⊥

-- no name is one of those before it
abbrev pub AreOthers : List (String Global) → List (String Global) → Type 0
AreOthers before [] = Unit {0}
AreOthers before (name ∷ names) = (named_at before (string_bytes name) ≡ None) × AreOthers (before ++ name ∷ []) names

-- the table of the machine; a table without entries if the document has none
abbrev pub machine_table : Option Data → Option Members
machine_table None = Some no_members
machine_table (Some d) = as_table d

-- a machine is the one that a document describes
abbrev pub IsMachine : Members → Setup → Type 0
IsMachine document s = IsSomeAnd (machine_table (get_member (codes "machine") document)) (λ ms. IsSetup ms s)

-- the tables of the tasks
abbrev pub task_tables : Members → Option Items
task_tables document = option_and_then as_array (get_member (codes "task") document)

-- the bits of all processors of a machine
abbrev pub all_of : ProcessorCount → ℕ
all_of size = 2 ^ processors_in size - 1

-- the tasks that a document describes, on a machine of this size; no two kinds have one name
abbrev pub HasTasks : ProcessorCount → Members → List TaskKind → Type 0
HasTasks size document kinds =
    (items : Items) × (names : List (String Global)) × (task_tables document ≡ Some items) × AreTableNames items names × AreOthers [] names × AreKinds names (all_of size) items kinds

-- the workload that a document describes, each of whose keys means something, on its machine with what is put in its place: it has
-- one task at least, and at most 1,024
pub record IsWorkload (c : Changes) (document : Members) (w : Workload) : Type 0 where
  pub known : first_unknown document_keys document ≡ None
  pub machine : (s : Setup) × IsMachine document s × (w.machine ≡ changed_by c s)
  pub tasks : HasTasks w.machine.size document w.tasks.items
  pub some : 0 < length w.tasks.items
  pub few : sum_by (λ k. k.count) w.tasks.items ≤ TASKS

-- the workload that a text describes
abbrev pub DescribesWorkload : List ℕ → Changes → Workload → Type 0
DescribesWorkload text c w = (document : Members) × (parse_document text ≡ Some document) × IsWorkload c document w

-- a text is reported as no TOML only if it is not TOML, at the place of one of its bytes or of its end; it is reported as no
-- workload only if it is TOML
abbrev pub IsWorkloadFault : List ℕ → WorkloadFault → Type 0
IsWorkloadFault text (Syntax line column message) = (parse_document text ≡ None) × IsTextPlace text line column
IsWorkloadFault text (Meaning words) = IsSome (parse_document text)
IsWorkloadFault text OutOfMemory = Unit {0}
