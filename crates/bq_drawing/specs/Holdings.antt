-- What a picture holds of a schedule.
use Rattle.std.specs.Prelude.{◌≡◌, ℕ, zero, suc, ◌-◌, ◌⊎◌, List, [], ◌∷◌, ◌++◌, replicate, slice_set, Option, Some, None, if◌then◌else◌, unwrap_or}
use Rattle.std.specs.BTreeMap.{insert_entry, is_at}
use Rattle.std.specs.BTreeSet.{insert_key}
use Rattle.std.specs.Map.{lookup}
use Rattle.std.specs.Option.{SomeIff, option_map}
use Rattle.std.specs.Ordering.{nat_cmp}
use Rattle.bq_schedule.specs.declared.change.Change.{Change}
use Rattle.bq_schedule.specs.declared.change.PulledTask.{PulledTask}
use Rattle.bq_schedule.specs.declared.change.Start.{Start}
use Rattle.bq_schedule.specs.declared.change.Stop.{Stop}
use Rattle.bq_schedule.specs.declared.change.Wake.{Wake}
use Rattle.bq_schedule.specs.declared.slice.Slice.{Slice}
use Rattle.bq_schedule.specs.Figures.{Figures, processor_in_figures, task_in_figures}
use Rattle.bq_schedule.specs.Running.{has_migrated, running_task}
use Rattle.bq_schedule.specs.Slices.{is_this}
use Rattle.bq_report.specs.declared.window.Window.{Window}
use Rattle.bq_report.specs.Windows.{IsShownPart, Shows, ShowsProcessor}
use Rattle.bq_drawing.specs.declared.lanes.TaskInterval.{TaskInterval}
use Rattle.bq_drawing.specs.declared.links.RowLink.{RowLink}
use Rattle.bq_drawing.specs.declared.links.LinkKind.TheVariants.{Migration, Pull}
use Rattle.bq_drawing.specs.declared.shapes.DrawnRun.{DrawnRun}
use Rattle.bq_drawing.specs.Rows.{DrawingRow, Rows, empty_drawing_row, drawing_row_of}
use Rattle.bq_drawing.specs.Runs.{run_ended_by, run_on}

-- what is held: a row for each processor, the lines between rows, and the tasks of which something is drawn
pub record Held : Type 0 where
  pub rows : Rows
  pub links : List RowLink
  pub tasks : List ℕ

-- nothing is held, with this many processors
abbrev pub nothing_of : ℕ → Held
nothing_of processors = record { rows = replicate processors empty_drawing_row; links = []; tasks = [] }

-- the shown part of a run, and how the run began
abbrev pub drawn_run : Start → Slice → DrawnRun
drawn_run start part = record { task = part.task; from = part.from; to = part.to; waited = start.waited; latency = start.latency }

-- a row with one more run
abbrev pub row_with_run : DrawnRun → DrawingRow → DrawingRow
row_with_run run row = record row { runs = row.runs ++ run ∷ [] }

-- a row with one more wait
abbrev pub row_with_wait : TaskInterval → DrawingRow → DrawingRow
row_with_wait wait row = record row { waits = row.waits ++ wait ∷ [] }

-- a row with one more wake
abbrev pub row_with_wake : TaskInterval → DrawingRow → DrawingRow
row_with_wake wake row = record row { wakes = row.wakes ++ wake ∷ [] }

-- a sorted list of tasks, with this one in it
abbrev pub tasks_with : ℕ → List ℕ → List ℕ
tasks_with task tasks = insert_key nat_cmp tasks task

-- what is held, with something of a task added to the row of a processor
abbrev pub with_more : ℕ → ℕ → (DrawingRow → DrawingRow) → Held → Held
with_more processor task more held =
    record held { rows = slice_set held.rows processor (more (drawing_row_of held.rows processor)); tasks = tasks_with task held.tasks }

-- what is held, with a run added at the end of its processor's row, if a part of it is shown
abbrev pub held_with_run : Option Start → Option Slice → Held → Held
held_with_run None part held = held
held_with_run (Some start) None held = held
held_with_run (Some start) (Some part) held = with_more part.processor part.task (row_with_run (drawn_run start part)) held

-- what is held, with a wait added to the row of a processor
abbrev pub with_interval : ℕ → TaskInterval → Held → Held
with_interval processor wait held = with_more processor wait.task (row_with_wait wait) held

-- what is held, with the part of a wait added to its processor's row, if a part of it is shown
abbrev pub with_wait : Option Slice → Held → Held
with_wait None held = held
with_wait (Some part) held = with_interval part.processor (record { from = part.from; to = part.to; task = part.task }) held

-- a wake as an interval of no length
abbrev pub waking : Wake → TaskInterval
waking k = record { from = k.at; to = k.at; task = k.task }

-- what is held, with a wake added to the row of the processor where its task was placed, if there is one
abbrev pub with_wake : Option Wake → Held → Held
with_wake None held = held
with_wake (Some k) held = with_more k.to k.task (row_with_wake (waking k)) held

-- what is held, with a line between two rows added
abbrev pub with_link : RowLink → Held → Held
with_link link held = record held { links = held.links ++ link ∷ []; tasks = tasks_with link.task held.tasks }

-- the shown part of a run is added, if there is one
abbrev pub HoldsRun : Window → Option Start → Option Slice → Held → Held → Type 0
HoldsRun w start run old new = (part : Option Slice) × IsShownPart w run part × (new ≡ held_with_run start part old)

-- the shown part of a wait is added, if there is one
abbrev pub HoldsWait : Window → Option Slice → Held → Held → Type 0
HoldsWait w wait old new = (part : Option Slice) × IsShownPart w wait part × (new ≡ with_wait part old)

-- a wake is shown if the window shows it at the processor where its task was placed
abbrev pub IsShownThere : Window → Option Wake → Option Wake → Type 0
IsShownThere w None part = part ≡ None
IsShownThere w (Some k) part = SomeIff part (Shows w k.to k.task k.at) k

-- a wake is added to its processor's row, if it is shown
abbrev pub HoldsWake : Window → Option Wake → Held → Held → Type 0
HoldsWake w wake old new = (part : Option Wake) × IsShownThere w wake part × (new ≡ with_wake part old)

-- the wait before a run with this start
abbrev pub wait_before : Start → Slice
wait_before start = record { processor = start.processor; task = start.task; from = start.at - start.waited; to = start.at }

-- the wait that a pull ended, at the processor that the task was taken from
abbrev pub wait_ended : PulledTask → Slice
wait_ended pull = record { processor = pull.from; task = pull.task; from = pull.at - pull.waited; to = pull.at }

-- a line is shown if it ends in the window, and both of its processors are shown
pub record ShowsLink (w : Window) (link : RowLink) : Type 0 where
  pub ends : Shows w link.to.processor link.task link.to.at
  pub begins : ShowsProcessor w link.from.processor

-- a line between two rows is added, if there is one and it is shown
abbrev pub HoldsLink : Window → Option RowLink → Held → Held → Type 0
HoldsLink w None old new = new ≡ old
HoldsLink w (Some link) old new = (ShowsLink w link × (new ≡ with_link link old)) ⊎ (¬ (ShowsLink w link) × (new ≡ old))

-- the line of a pull
abbrev pub pulled_link : PulledTask → RowLink
pulled_link pull = record {
  kind = Pull;
  task = pull.task;
  from = record { processor = pull.from; at = pull.at };
  to = record { processor = pull.to; at = pull.at };
}

-- when each task last stopped running
abbrev pub Stops : Type 0
Stops = List (ℕ × ℕ)

-- when each task last stopped running, after a change that may have ended a run
abbrev pub with_stop : Option Stop → Stops → Stops
with_stop None stops = stops
with_stop (Some stop) stops = insert_entry nat_cmp stops stop.start.task stop.at

-- when the line of a migration begins: when its task last stopped running, or when the run begins if that is not known
abbrev pub migration_begin : Stops → Start → ℕ
migration_begin stops start = unwrap_or (lookup (is_at (nat_cmp start.task)) stops) start.at

-- the line to a run with this start, from another processor
abbrev pub link_from : Stops → Start → ℕ → RowLink
link_from stops start before = record {
  kind = Migration;
  task = start.task;
  from = record { processor = before; at = migration_begin stops start };
  to = record { processor = start.processor; at = start.at };
}

-- the line of a migration, if the task ran on another processor before
abbrev pub migration_of : Stops → Start → Option RowLink
migration_of stops start = if has_migrated start then option_map (link_from stops start) start.before else None

-- the line of a migration, if there is a start and its task ran on another processor before
abbrev pub migration_link : Stops → Option Start → Option RowLink
migration_link stops None = None
migration_link stops (Some start) = migration_of stops start

-- the wait that a pull ended is added, and the pull's line
pub record HoldsPull (w : Window) (pull : Option PulledTask) (old new : Held) : Type 0 where
  pub waited : Held
  pub wait : HoldsWait w (option_map wait_ended pull) old waited
  pub line : HoldsLink w (option_map pulled_link pull) waited new

-- the wait before a run that began is added, and the line of its migration
pub record HoldsStart (w : Window) (stops : Stops) (start : Option Start) (old new : Held) : Type 0 where
  pub waited : Held
  pub wait : HoldsWait w (option_map wait_before start) old waited
  pub line : HoldsLink w (migration_link stops start) waited new

-- what a change adds: its wake, its pull, the run that it ends, and the wait and the migration of the run that begins
pub record HoldsChange (w : Window) (change : Change) (before after : Stops) (old new : Held) : Type 0 where
  pub woken : Held
  pub pulled : Held
  pub stopped : Held
  pub wake : HoldsWake w change.wake old woken
  pub pull : HoldsPull w change.pull woken pulled
  pub stop : HoldsRun w (option_map (λ (s : Stop). s.start) change.stop) (run_ended_by change.stop) pulled stopped
  pub stops : after ≡ with_stop change.stop before
  pub start : HoldsStart w after change.start stopped new

-- the shown parts of the runs that still go on are added, for the processors below a number
unfoldable pub HoldsRunners : Window → Figures → ℕ → Held → Held → Type 0
HoldsRunners w s zero old new = new ≡ old
HoldsRunners w s (suc processor) old new =
    (before : Held) × HoldsRunners w s processor old before
    × HoldsRun w (processor_in_figures s processor).running (run_on (processor_in_figures s processor)) before new

-- the wait of a task at a place, unless it runs there: it goes on up to the last reading of the clock there
abbrev pub wait_at : Figures → ℕ → Option ℕ → Option Slice
wait_at s id None = None
wait_at s id (Some p) =
    if is_this id (running_task (processor_in_figures s p)) then None
    else Some (record { processor = p; task = id; from = (task_in_figures s id).waiting_since; to = (processor_in_figures s p).last })

-- the shown parts of the waits that still go on are added, for the tasks below a number
unfoldable pub HoldsWaiting : Window → Figures → ℕ → Held → Held → Type 0
HoldsWaiting w s zero old new = new ≡ old
HoldsWaiting w s (suc id) old new =
    (before : Held) × HoldsWaiting w s id old before × HoldsWait w (wait_at s id (task_in_figures s id).processor) before new
