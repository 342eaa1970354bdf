-- The report and its figures as JSON, each as a whole: which tasks and processors are in it, and what it says of them.
use Rattle.std.specs.Prelude.{◌≡◌, ℕ, zero, suc, ◌<◌, ◌⊎◌, Bool, true, false, List, [], ◌∷◌, ◌++◌, length, if◌then◌else◌, IsTrue, IsPermutation, IsSorted, codes}
use Rattle.std.specs.Ordering.{nat_cmp}
use Rattle.bq_disc.specs.declared.limits.TheConstants.{PROCESSORS, TASKS}
use Rattle.serde_json.specs.Data.{Data}
use Rattle.serde_json.specs.Written.{compact_text}
use Rattle.bq_schedule.specs.declared.figures.ProcessorFigures.{ProcessorFigures}
use Rattle.bq_schedule.specs.declared.percentiles.Percentiles.{Percentiles}
use Rattle.bq_schedule.specs.Figures.{Figures, processor_in_figures, task_in_figures}
use Rattle.bq_schedule.specs.Observed.{observed_time}
use Rattle.bq_schedule.specs.Runnable.{fair_of}
use Rattle.bq_schedule.specs.WakeLatencies.{Tasks, latencies_of, percentiles_of}
use Rattle.bq_report.specs.declared.window.Window.{Window}
use Rattle.bq_report.specs.Columns.{hook_lines, latency_line, missed_line, nearest, processor_report_line, task_line}
use Rattle.bq_report.specs.Names.{NamedTasks}
use Rattle.bq_report.specs.Objects.{missed_member, processor_object, task_object}
use Rattle.bq_report.specs.Timehist.{name_text}
use Rattle.bq_report.specs.Waits.{still_waiting}
use Rattle.bq_report.specs.Windows.{ShowsProcessor, ShowsTask}

-- if a condition holds the part is like this, and otherwise it is empty
pub record IsPartIf (A : Type 0) (Holds : Type 0) (IsLike : List A → Type 0) (part : List A) : Type 0 where
  pub there : Holds → IsLike part
  pub nothing : ¬ Holds → part ≡ []

-- the parts of the numbers below a number, one after another
unfoldable pub AreParts : {A : Type 0} → (ℕ → List A → Type 0) → ℕ → List A → Type 0
AreParts {A} Is zero parts = parts ≡ []
AreParts {A} Is (suc number) parts =
    (before : List A) × (own : List A) × AreParts Is number before × Is number own × (parts ≡ before ++ own)

-- a text has grown by a part like this
abbrev pub GrowsByPart : (List ℕ → Type 0) → List ℕ → List ℕ → Type 0
GrowsByPart IsLike old new = (part : List ℕ) × IsLike part × (new ≡ old ++ part)

-- a task is in the report: it was admitted, and is shown
pub record HasTask (w : Window) (s : Figures) (id : ℕ) : Type 0 where
  pub admitted : IsTrue (task_in_figures s id).is_admitted
  pub shown : ShowsTask w id

-- a processor is in the report: it exists, and is shown
pub record HasProcessor (w : Window) (s : Figures) (p : ℕ) : Type 0 where
  pub exists : p < length s.processors
  pub shown : ShowsProcessor w p

-- the percentiles of latencies, whatever their order
pub record ArePercentiles (latencies : List ℕ) (p : Percentiles) : Type 0 where
  pub sorted : List ℕ
  pub in_order : IsSorted nat_cmp sorted
  pub same : IsPermutation latencies sorted
  pub value : p ≡ percentiles_of sorted

-- the line of a task, if it has one
abbrev pub IsTaskLine : Window → NamedTasks → Figures → ℕ → List ℕ → Type 0
IsTaskLine w names s id line =
    IsPartIf ℕ (HasTask w s id) (λ own. own ≡ task_line id (name_text names id) (task_in_figures s id) (nearest (fair_of s id))) line

-- the line of a task's latencies, if it has one
abbrev pub IsLatencyLine : Window → NamedTasks → Figures → List ℕ → ℕ → List ℕ → Type 0
IsLatencyLine w names s latencies id line =
    IsPartIf ℕ (HasTask w s id)
    (λ own. (p : Percentiles) × ArePercentiles latencies p
    × (own ≡ latency_line id (name_text names id) (task_in_figures s id).wakes p (still_waiting s id)))
    line

-- the line of a processor, if it has one
abbrev pub IsProcessorLine : Window → Figures → ℕ → List ℕ → Type 0
IsProcessorLine w s p line =
    IsPartIf ℕ (HasProcessor w s p) (λ own. own ≡ processor_report_line p (observed_time s) (processor_in_figures s p)) line

-- a policy was asked at a hook of a processor
abbrev pub WasAsked : ProcessorFigures → Type 0
WasAsked p = (0 < p.place.asked) ⊎ ((0 < p.preempt.asked) ⊎ (0 < p.pull.asked))

-- a processor has lines for its hooks: it is shown, and a policy was asked there
pub record HasHooks (w : Window) (s : Figures) (p : ℕ) : Type 0 where
  pub shown : ShowsProcessor w p
  pub asked : WasAsked (processor_in_figures s p)

-- the lines of a processor's hooks, if it has any
abbrev pub AreHookLines : Window → Figures → ℕ → List ℕ → Type 0
AreHookLines w s p lines = IsPartIf ℕ (HasHooks w s p) (λ own. own ≡ hook_lines p (processor_in_figures s p)) lines

-- a table: its head, then the lines of the numbers below a number
abbrev pub IsTable : List ℕ → (ℕ → List ℕ → Type 0) → ℕ → List ℕ → Type 0
IsTable head Is count text = (lines : List ℕ) × AreParts Is count lines × (text ≡ head ++ lines)

-- the head of the table of tasks
abbrev pub task_head : List ℕ
task_head = codes " task name            nice       cpu ms      fair ms switches preempted migrated\n"

-- the head of the table of latencies
abbrev pub latency_head : List ℕ
latency_head = codes " task name               wakes      p50 us      p95 us      p99 us      max us\n"

-- the head of the table of processors
abbrev pub processor_head : List ℕ
processor_head = codes "  cpu  busy %      busy ms      idle ms switches\n"

-- the head of the table of policies, after an empty line
abbrev pub hook_head : List ℕ
hook_head = codes "\n  cpu hook            asked  overruled          steps\n"

-- lines under the head of the policies; no head if there are no lines
abbrev pub under_hook_head : List ℕ → List ℕ
under_hook_head [] = []
under_hook_head (byte ∷ lines) = hook_head ++ (byte ∷ lines)

-- the head of the policies, unless the text has it already
abbrev pub hook_head_unless : Bool → List ℕ
hook_head_unless has_head = if has_head then [] else hook_head

-- the table of the policies that were asked
abbrev pub IsHookTable : Window → Figures → List ℕ → Type 0
IsHookTable w s text = (lines : List ℕ) × AreParts (AreHookLines w s) PROCESSORS lines × (text ≡ under_hook_head lines)

-- the report: the tables of tasks, of latencies, of processors and of policies; the wakes that did nothing follow the second table
pub record IsReport (w : Window) (names : NamedTasks) (s : Figures) (latencies : Tasks) (missed : ℕ) (text : List ℕ) : Type 0 where
  pub first : List ℕ
  pub second : List ℕ
  pub third : List ℕ
  pub last : List ℕ
  pub tasks : IsTable task_head (IsTaskLine w names s) TASKS first
  pub waits : IsTable latency_head (λ id. IsLatencyLine w names s (latencies_of latencies id) id) TASKS second
  pub processors : IsTable processor_head (IsProcessorLine w s) PROCESSORS third
  pub policies : IsHookTable w s last
  pub whole : text ≡ first ++ (codes "\n" ++ (second ++ (missed_line missed ++ (codes "\n" ++ (third ++ last)))))

-- the object of a task, if it has one
abbrev pub IsTaskObject : Window → NamedTasks → Figures → List ℕ → ℕ → List Data → Type 0
IsTaskObject w names s latencies id objects =
    IsPartIf Data (HasTask w s id)
    (λ own. (p : Percentiles) × ArePercentiles latencies p × (own ≡ task_object names s id p ∷ []))
    objects

-- the object of a processor, if it has one
abbrev pub IsProcessorObject : Window → Figures → ℕ → List Data → Type 0
IsProcessorObject w s p objects =
    IsPartIf Data (HasProcessor w s p) (λ own. own ≡ processor_object p (observed_time s) (processor_in_figures s p) ∷ []) objects

-- what precedes an element of an array: a line feed, and a comma before that unless the element is the first
abbrev pub separator_if : Bool → List ℕ
separator_if is_first = if is_first then codes "\n" else codes ",\n"

-- the elements of an array, each on a line of its own; the first may be left out
abbrev pub elements_text : Bool → List Data → List ℕ
elements_text is_first [] = []
elements_text is_first (here ∷ later) = separator_if is_first ++ (compact_text here ++ elements_text false later)

-- the elements of an array: the objects of the numbers below a number
abbrev pub AreElements : (ℕ → List Data → Type 0) → ℕ → List ℕ → Type 0
AreElements Is count text = (objects : List Data) × AreParts Is count objects × (text ≡ elements_text true objects)

-- the figures as JSON: the schema's number, the tasks, the processors, and the wakes that did nothing if there are any
pub record IsJsonReport (w : Window) (names : NamedTasks) (s : Figures) (latencies : Tasks) (missed : ℕ) (text : List ℕ) : Type 0 where
  pub first : List ℕ
  pub second : List ℕ
  pub tasks : AreElements (λ id. IsTaskObject w names s (latencies_of latencies id) id) TASKS first
  pub processors : AreElements (IsProcessorObject w s) PROCESSORS second
  pub whole : text ≡ codes "{\"schema\":1,\"tasks\":[" ++ (first ++ (codes "\n],\"processors\":[" ++ (second ++ (codes "\n]" ++ (missed_member missed ++ codes "}\n")))))
