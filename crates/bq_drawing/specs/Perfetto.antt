-- The trace as a whole: which events a change has, and what they say.
use Rattle.std.specs.Prelude.{◌≡◌, ℕ, ◌-◌, ◌≤◌, Bool, true, ◌==◌, List, [], ◌++◌, Option, Some, None, is_some, codes, if◌then◌else◌}
use Rattle.std.specs.Option.{SomeIff, option_map}
use Rattle.bq_disc.specs.declared.limits.TheConstants.{PROCESSORS}
use Rattle.serde_json.specs.Written.{compact_text}
use Rattle.bq_hooks.specs.Hooks.{hook_word}
use Rattle.bq_schedule.specs.declared.change.Change.{Change}
use Rattle.bq_schedule.specs.declared.change.ClockReading.{ClockReading}
use Rattle.bq_schedule.specs.declared.change.Decision.{Decision}
use Rattle.bq_schedule.specs.declared.change.PulledTask.{PulledTask}
use Rattle.bq_schedule.specs.declared.change.Start.{Start}
use Rattle.bq_schedule.specs.declared.change.Stop.{Stop}
use Rattle.bq_schedule.specs.declared.change.Wake.{Wake}
use Rattle.bq_schedule.specs.declared.slice.Slice.{Slice}
use Rattle.bq_schedule.specs.Figures.{Figures, processor_in_figures, task_in_figures}
use Rattle.bq_schedule.specs.Steps.{was_overruled}
use Rattle.bq_report.specs.declared.window.Window.{Window}
use Rattle.bq_report.specs.Names.{NamedTasks}
use Rattle.bq_report.specs.Reports.{AreParts}
use Rattle.bq_report.specs.Windows.{IsShownMigration, IsShownPart, IsShownWake, Shows, ShowsProcessor}
use Rattle.bq_drawing.specs.declared.past_events.Arrows.{Arrows}
use Rattle.bq_drawing.specs.declared.perfetto.ShownParts.{ShownParts}
use Rattle.bq_drawing.specs.Events.{act_name, beginning_text, counter_text, end_text, event_track, instant_text, overruled_text, run_event, run_name, run_object, task_args, tracks_text}
use Rattle.bq_drawing.specs.Runs.{run_ended_by, run_on}
use Rattle.bq_drawing.specs.PastEvents.{Past, after_count, after_run, after_start, after_wake, arrows_to, last_run, next_arrow, written_count}

-- ---- what of a change is shown

-- a moment at a processor is inside the window
pub record ShowsMoment (w : Window) (p at : ℕ) : Type 0 where
  pub begun : w.from ≤ at
  pub not_over : at ≤ w.to
  pub processor : ShowsProcessor w p

-- a decision is shown if it overruled a policy's answer, and the window shows the reading of the clock
abbrev pub IsShownDecision : Window → Option Decision → Option ClockReading → Option Decision → Type 0
IsShownDecision w None reading part = part ≡ None
IsShownDecision w (Some d) None part = part ≡ None
IsShownDecision w (Some d) (Some r) part = SomeIff part ((was_overruled d ≡ true) × ShowsMoment w r.processor r.current) d

-- a pull is shown if the window shows it at the processor that pulls
abbrev pub IsShownPull : Window → Option PulledTask → Option PulledTask → Type 0
IsShownPull w None part = part ≡ None
IsShownPull w (Some p) part = SomeIff part (Shows w p.to p.task p.at) p

-- a reading of a clock is shown if its moment is inside the window
abbrev pub IsShownReading : Window → Option ClockReading → Option ClockReading → Type 0
IsShownReading w None part = part ≡ None
IsShownReading w (Some r) part = SomeIff part (ShowsMoment w r.processor r.current) r

-- the parts of a change that are shown, each by its own rule
pub record ShowsChange (w : Window) (change : Change) (shown : ShownParts) : Type 0 where
  pub overruled : IsShownDecision w change.decision change.reading shown.overruled
  pub wake : IsShownWake w change.wake shown.wake
  pub pull : IsShownPull w change.pull shown.pull
  pub run : IsShownPart w (run_ended_by change.stop) shown.run
  pub migration : IsShownMigration w change.start shown.migration
  pub reading : IsShownReading w change.reading shown.reading

-- ---- what each part says

-- the instant of an answer that was overruled, if there is one
abbrev pub perfetto_overruled : Option Decision → Option ClockReading → List ℕ
perfetto_overruled None reading = []
perfetto_overruled (Some d) None = []
perfetto_overruled (Some d) (Some r) = overruled_text (hook_word d.hook) d.steps r.processor r.current

-- a wake and the beginning of its arrow, if there is a wake
abbrev pub perfetto_wake : NamedTasks → ℕ → Option Wake → List ℕ
perfetto_wake names arrow None = []
perfetto_wake names arrow (Some k) =
    instant_text (codes "wake") (act_name names (codes "wake") k.task) (event_track k.from) k.at (task_args k.task (codes "to") k.to)
    ++ beginning_text (codes "wake") arrow (event_track k.from) k.at

-- a pull, if there is one
abbrev pub perfetto_pull : NamedTasks → Option PulledTask → List ℕ
perfetto_pull names None = []
perfetto_pull names (Some p) =
    instant_text (codes "pull") (act_name names (codes "pull") p.task) (event_track p.to) p.at (task_args p.task (codes "from") p.from)

-- the end of an arrow at the beginning of a run, if there is an arrow
abbrev pub perfetto_end : List ℕ → Option ℕ → Slice → List ℕ
perfetto_end kind None run = []
perfetto_end kind (Some arrow) run = end_text kind arrow run

-- the ends of the arrows that lead to a run
abbrev pub perfetto_ends : Arrows → Slice → List ℕ
perfetto_ends arrows run = perfetto_end (codes "wake") arrows.wake run ++ perfetto_end (codes "migration") arrows.migration run

-- the ends of the arrows that lead to a run, if the run is shown from its beginning
abbrev pub perfetto_ends_if : Bool → Arrows → Slice → List ℕ
perfetto_ends_if is_whole arrows run = if is_whole then perfetto_ends arrows run else []

-- the shown part of a run; if it is shown from its beginning, the ends of the arrows that lead to it follow
abbrev pub perfetto_run : NamedTasks → Figures → Past → Option Start → Option Slice → List ℕ
perfetto_run names s h None run = []
perfetto_run names s h (Some start) None = []
perfetto_run names s h (Some start) (Some run) =
    run_event run (run_name names run.task) (compact_text (run_object (task_in_figures s run.task) run.task start.waited))
    ++ perfetto_ends_if (run.from == start.at) (arrows_to h run.processor) run

-- the run from whose end an arrow leads to a migration: the shown part of the task's last run that ended
abbrev pub left_run : Past → Option Start → Option Slice
left_run h None = None
left_run h (Some start) = last_run h start.task

-- the beginning of a migration's arrow, in the last nanosecond of the run that it leads from
abbrev pub perfetto_migration : ℕ → Option Slice → List ℕ
perfetto_migration arrow None = []
perfetto_migration arrow (Some run) = beginning_text (codes "migration") arrow run.processor (run.to - 1)

-- how many tasks are runnable at a processor, if it exists and the number differs from the one written last
abbrev pub perfetto_count : ℕ → ℕ → ℕ → Option ℕ → List ℕ
perfetto_count processor at count None = []
perfetto_count processor at count (Some reported) = if reported == count then [] else counter_text processor at count

-- how many tasks are runnable at a processor after a reading, if the number has changed
abbrev pub perfetto_reading : Figures → Past → Option ClockReading → List ℕ
perfetto_reading s h None = []
perfetto_reading s h (Some r) = perfetto_count r.processor r.current (processor_in_figures s r.processor).runnable (written_count h r.processor)

-- ---- what is known after each part

-- the history after a wake, if there is one
abbrev pub past_wake : Option Wake → Option Wake → Past → Past
past_wake None part h = h
past_wake (Some k) part h = after_wake k.task (is_some part) h

-- the history after a run ended, if one did
abbrev pub past_stop : Option Stop → Option Slice → Past → Past
past_stop None part h = h
past_stop (Some s) part h = after_run s.start.task part h

-- the history after a run began, if one did
abbrev pub past_start : Option Start → Option Start → Past → Past
past_start None migration h = h
past_start (Some s) migration h = after_start s.processor s.task (is_some (left_run h migration)) h

-- the history after a reading of a clock, if there is one
abbrev pub past_reading : Figures → Option ClockReading → Past → Past
past_reading s None h = h
past_reading s (Some r) h = after_count r.processor (processor_in_figures s r.processor).runnable h

-- ---- the whole

-- the events of a change, in this order: an overruled answer, its wake, its pull, the run that it ends, the arrow to the run that begins,
-- and the count of runnable tasks, if there are any; and the history after them
pub record IsPerfettoOf (w : Window) (names : NamedTasks) (s : Figures) (change : Change) (old new : Past) (text : List ℕ) : Type 0 where
  pub shown : ShownParts
  pub is_shown : ShowsChange w change shown
  pub woken : Past
  pub stopped : Past
  pub started : Past
  pub after_wake : woken ≡ past_wake change.wake shown.wake old
  pub after_stop : stopped ≡ past_stop change.stop shown.run woken
  pub after_start : started ≡ past_start change.start shown.migration stopped
  pub after_all : new ≡ past_reading s shown.reading started
  pub whole : text ≡ perfetto_overruled shown.overruled change.reading
      ++ (perfetto_wake names (next_arrow old) shown.wake
      ++ (perfetto_pull names shown.pull
      ++ (perfetto_run names s woken (option_map (λ (stop : Stop). stop.start) change.stop) shown.run
      ++ (perfetto_migration (next_arrow stopped) (left_run stopped shown.migration)
      ++ perfetto_reading s started shown.reading))))

-- the text before all events
abbrev pub perfetto_head : List ℕ
perfetto_head = codes "{\"displayTimeUnit\":\"ns\",\"traceEvents\":[\n{\"ph\":\"M\",\"pid\":0,\"name\":\"process_name\",\"args\":{\"name\":\"bqsim\"}}"

-- the beginning: the text before all events, and the two tracks of each processor
abbrev pub IsPerfettoHead : ℕ → List ℕ → Type 0
IsPerfettoHead processors text =
    (tracks : List ℕ) × AreParts (λ processor own. own ≡ tracks_text processor) processors tracks × (text ≡ perfetto_head ++ tracks)

-- the shown part of the run that goes on at a processor
abbrev pub IsPerfettoRunner : Window → NamedTasks → Figures → Past → ℕ → List ℕ → Type 0
IsPerfettoRunner w names s h processor text =
    (part : Option Slice) × IsShownPart w (run_on (processor_in_figures s processor)) part
    × (text ≡ perfetto_run names s h (processor_in_figures s processor).running part)

-- the end: the runs that go on, in order of their processors, and the text after all events
abbrev pub IsPerfettoTail : Window → NamedTasks → Figures → Past → List ℕ → Type 0
IsPerfettoTail w names s h text =
    (runs : List ℕ) × AreParts (IsPerfettoRunner w names s h) PROCESSORS runs × (text ≡ runs ++ codes "\n]}\n")
