-- The events of a trace for Perfetto, one behind another.
use Rattle.std.proofs.Common.{◌≡◌, ℕ, ◌+◌, ◌-◌, ◌*◌, List, ◌++◌, Option, Some, refl, sym, ap, ◌∙◌, subst, append_assoc}
use Rattle.std.specs.Prelude.{◌==◌, codes, option_map}
use Rattle.std.specs.Fmt.{decimal}
use Rattle.serde_json.specs.Written.{compact_text}
use Rattle.bq_schedule.specs.declared.change.Change.{Change}
use Rattle.bq_schedule.specs.declared.change.PulledTask.{PulledTask}
use Rattle.bq_schedule.specs.declared.change.Start.{Start}
use Rattle.bq_schedule.specs.declared.change.Stop.{Stop}
use Rattle.bq_schedule.specs.declared.change.Wake.{Wake}
use Rattle.bq_schedule.specs.declared.figures.ProcessorFigures.{ProcessorFigures}
use Rattle.bq_schedule.specs.declared.slice.Slice.{Slice}
use Rattle.bq_schedule.specs.Figures.{Figures, processor_in_figures, task_in_figures}
use Rattle.bq_report.specs.declared.window.Window.{Window}
use Rattle.bq_report.specs.Names.{NamedTasks}
use Rattle.bq_report.specs.Reports.{GrowsByPart, AreParts}
use Rattle.bq_report.specs.Windows.{IsShownPart}
use Rattle.bq_report.proofs.ReportLemmas.{AreParts-end, lines_more}
use Rattle.bq_drawing.specs.declared.perfetto.ShownParts.{ShownParts}
use Rattle.bq_drawing.specs.Events.{act_name, beginning_text, event_track, instant_text, run_event, run_name, run_object, task_args, track_text, tracks_text}
use Rattle.bq_drawing.specs.PastEvents.{Past, arrows_to, next_arrow}
use Rattle.bq_drawing.specs.Runs.{run_on}
use Rattle.bq_drawing.specs.Perfetto.{IsPerfettoOf, IsPerfettoRunner, IsPerfettoTail, ShowsChange, left_run, past_reading, past_start, past_stop, past_wake, perfetto_ends_if, perfetto_migration, perfetto_overruled, perfetto_pull, perfetto_reading, perfetto_run, perfetto_wake}

-- the two tracks of a processor
pub tracks_written : (processor runs events : ℕ) (name other old now new : List ℕ)
    → runs ≡ processor → events ≡ 64 → name ≡ codes "cpu " ++ decimal runs
    → other ≡ codes "cpu " ++ (decimal runs ++ codes " events") → now ≡ old ++ track_text runs name (runs * 2)
    → new ≡ now ++ track_text (events + runs) other (runs * 2 + 1)
    → new ≡ old ++ tracks_text processor
tracks_written processor runs events name other old now new is is_64 n o e1 e2 =
    let first = codes "cpu " ++ decimal runs in
    let second = codes "cpu " ++ (decimal runs ++ codes " events") in
    e2 ∙ ap (λ t. t ++ track_text (events + runs) other (runs * 2 + 1)) e1
    ∙ append_assoc old (track_text runs name (runs * 2)) (track_text (events + runs) other (runs * 2 + 1))
    ∙ ap (λ t. old ++ (track_text runs t (runs * 2) ++ track_text (events + runs) other (runs * 2 + 1))) n
    ∙ ap (λ t. old ++ (track_text runs first (runs * 2) ++ track_text (events + runs) t (runs * 2 + 1))) o
    ∙ ap (λ k. old ++ (track_text runs first (runs * 2) ++ track_text (k + runs) second (runs * 2 + 1))) is_64
    ∙ ap (λ p. old ++ tracks_text p) is

-- marks with equal names, tracks and arguments are the same
same_mark : (kind name name' : List ℕ) (track track' at : ℕ) (args args' : List ℕ) → name ≡ name' → track ≡ track' → args ≡ args'
    → instant_text kind name track at args ≡ instant_text kind name' track' at args'
same_mark kind name name' track track' at args args' n t a =
    ap (λ m. instant_text kind m track at args) n ∙ ap (λ k. instant_text kind name' k at args) t ∙ ap (λ b. instant_text kind name' track' at b) a

-- a wake that is there, and the beginning of its arrow
pub wake_written : (names : NamedTasks) (arrow : ℕ) (given : Option Wake) (k : Wake) (track : ℕ)
    (name args old now new : List ℕ)
    → given ≡ Some k → name ≡ act_name names (codes "wake") k.task → args ≡ task_args k.task (codes "to") k.to
    → track ≡ event_track k.from → now ≡ old ++ instant_text (codes "wake") name track k.at args
    → new ≡ now ++ beginning_text (codes "wake") arrow track k.at
    → new ≡ old ++ perfetto_wake names arrow given
wake_written names arrow given k track name args old now new is n a t e1 e2 =
    let mark = instant_text (codes "wake") name track k.at args in
    let reported =
    instant_text (codes "wake") (act_name names (codes "wake") k.task) (event_track k.from) k.at
    (task_args k.task (codes "to") k.to) in
    e2 ∙ ap (λ x. x ++ beginning_text (codes "wake") arrow track k.at) e1
    ∙ append_assoc old mark (beginning_text (codes "wake") arrow track k.at)
    ∙ ap (λ x. old ++ (x ++ beginning_text (codes "wake") arrow track k.at))
    (same_mark (codes "wake") name (act_name names (codes "wake") k.task) track (event_track k.from) k.at args
    (task_args k.task (codes "to") k.to) n t a)
    ∙ ap (λ x. old ++ (reported ++ beginning_text (codes "wake") arrow x k.at)) t
    ∙ ap (λ x. old ++ perfetto_wake names arrow x) (sym is)

-- a pull that is there
pub pull_written : (names : NamedTasks) (given : Option PulledTask) (p : PulledTask) (track : ℕ) (name args old new : List ℕ)
    → given ≡ Some p → name ≡ act_name names (codes "pull") p.task → args ≡ task_args p.task (codes "from") p.from
    → track ≡ event_track p.to → new ≡ old ++ instant_text (codes "pull") name track p.at args
    → new ≡ old ++ perfetto_pull names given
pull_written names given p track name args old new is n a t e =
    e ∙ ap (λ x. old ++ x) (same_mark (codes "pull") name (act_name names (codes "pull") p.task) track
    (event_track p.to) p.at args (task_args p.task (codes "from") p.from) n t a)
    ∙ ap (λ x. old ++ perfetto_pull names x) (sym is)

-- the beginning of a migration's arrow
pub migration_written : (arrow : ℕ) (given : Option Slice) (run : Slice) (track at : ℕ) (old new : List ℕ)
    → given ≡ Some run → track ≡ run.processor → at ≡ run.to - 1
    → new ≡ old ++ beginning_text (codes "migration") arrow track at
    → new ≡ old ++ perfetto_migration arrow given
migration_written arrow given run track at old new is t a e =
    e ∙ ap (λ x. old ++ beginning_text (codes "migration") arrow x at) t
    ∙ ap (λ x. old ++ beginning_text (codes "migration") arrow run.processor x) a ∙ ap (λ x. old ++ perfetto_migration arrow x) (sym is)

-- a run of which a part is shown, and the ends of the arrows that lead to it
pub run_written : (names : NamedTasks) (s : Figures) (h : Past) (given : Option Start) (part : Option Slice) (start : Start) (run : Slice)
    (name args old now new : List ℕ) → given ≡ Some start → part ≡ Some run → name ≡ run_name names run.task
    → args ≡ compact_text (run_object (task_in_figures s run.task) run.task start.waited) → now ≡ old ++ run_event run name args
    → new ≡ now ++ perfetto_ends_if (run.from == start.at) (arrows_to h run.processor) run → new ≡ old ++ perfetto_run names s h given part
run_written names s h given part start run name args old now new is_start is_run n a e1 e2 =
    let ends = perfetto_ends_if (run.from == start.at) (arrows_to h run.processor) run in
    e2 ∙ ap (λ x. x ++ ends) e1 ∙ append_assoc old (run_event run name args) ends
    ∙ ap (λ x. old ++ (run_event run x args ++ ends)) n ∙ ap (λ x. old ++ (run_event run (run_name names run.task) x ++ ends)) a
    ∙ ap (λ x. old ++ perfetto_run names s h (Some start) x) (sym is_run) ∙ ap (λ x. old ++ perfetto_run names s h x part) (sym is_start)

-- the tracks of the first processors and those of one more are tracks of processors
pub tracks_more : (number processor : ℕ) (old now next : List ℕ)
    → processor ≡ number → GrowsByPart (AreParts (λ p own. own ≡ tracks_text p) number) old now → next ≡ now ++ tracks_text processor
    → GrowsByPart (AreParts (λ p own. own ≡ tracks_text p) (number + 1)) old next
tracks_more number processor old now next is before e =
    lines_more (λ p own. own ≡ tracks_text p) number old now next before (tracks_text number, refl, e ∙ ap (λ p. now ++ tracks_text p) is)

-- a processor's run that goes on stands behind a text, as far as it is shown
abbrev pub AddsRunner : Window → NamedTasks → Figures → Past → ProcessorFigures → List ℕ → List ℕ → Type 0
AddsRunner w names s h p now next =
    (part : Option Slice) × IsShownPart w (run_on p) part × (next ≡ now ++ perfetto_run names s h p.running part)

-- the runs that go on at the first processors, and one more processor's, are those of one processor more
pub runners_more : (w : Window) (names : NamedTasks) (s : Figures) (h : Past) (number : ℕ) (p : ProcessorFigures) (old now next : List ℕ)
    → GrowsByPart (AreParts (IsPerfettoRunner w names s h) number) old now → p ≡ processor_in_figures s number → AddsRunner w names s h p now next
    → GrowsByPart (AreParts (IsPerfettoRunner w names s h) (number + 1)) old next
runners_more w names s h number p old now next before is step =
    let here : AddsRunner w names s h (processor_in_figures s number) now next = subst (λ q. AddsRunner w names s h q now next) is step in
    lines_more (IsPerfettoRunner w names s h) number old now next before
    (perfetto_run names s h (processor_in_figures s number).running here.0, (here.0, here.1, refl), here.2)

-- the runs of all processors that go on, and the end behind them
pub tail_added : (w : Window) (names : NamedTasks) (s : Figures) (h : Past) (number : ℕ) (old now next : List ℕ)
    → number ≡ 64 → GrowsByPart (AreParts (IsPerfettoRunner w names s h) number) old now → next ≡ now ++ codes "\n]}\n"
    → GrowsByPart (IsPerfettoTail w names s h) old next
tail_added w names s h number old now next is runs e = (
  runs.0 ++ codes "\n]}\n",
  (runs.0, AreParts-end (IsPerfettoRunner w names s h) number 64 runs.0 is runs.1, refl),
  e ∙ ap (λ t. t ++ codes "\n]}\n") runs.2 ∙ append_assoc old runs.0 (codes "\n]}\n"),
)

-- parts of a text that are joined from the left are the same joined from the right
regroup : (t a b c d e f : List ℕ) → (((((t ++ a) ++ b) ++ c) ++ d) ++ e) ++ f ≡ t ++ (a ++ (b ++ (c ++ (d ++ (e ++ f)))))
regroup t a b c d e f = simp append_assoc

-- a text that grows by six parts in turn has grown by all of them, in order
six : (t0 t1 t2 t3 t4 t5 t6 a b c d e f : List ℕ) → t1 ≡ t0 ++ a → t2 ≡ t1 ++ b → t3 ≡ t2 ++ c → t4 ≡ t3 ++ d → t5 ≡ t4 ++ e → t6 ≡ t5 ++ f
    → t6 ≡ t0 ++ (a ++ (b ++ (c ++ (d ++ (e ++ f)))))
six t0 t1 t2 t3 t4 t5 t6 a b c d e f e1 e2 e3 e4 e5 e6 =
    e6 ∙ ap (λ t. t ++ f) (e5 ∙ ap (λ t. t ++ e) (e4 ∙ ap (λ t. t ++ d) (e3 ∙ ap (λ t. t ++ c) (e2 ∙ ap (λ t. t ++ b) e1))))
    ∙ regroup t0 a b c d e f

-- the events of a change, in order
pub events_added : (w : Window) (names : NamedTasks) (s : Figures) (change : Change) (shown : ShownParts)
    (old woken stopped started new : Past) (t0 t1 t2 t3 t4 t5 t6 : List ℕ)
    → ShowsChange w change shown → t1 ≡ t0 ++ perfetto_overruled shown.overruled change.reading
    → woken ≡ past_wake change.wake shown.wake old → t2 ≡ t1 ++ perfetto_wake names (next_arrow old) shown.wake
    → t3 ≡ t2 ++ perfetto_pull names shown.pull → stopped ≡ past_stop change.stop shown.run woken
    → t4 ≡ t3 ++ perfetto_run names s woken (option_map (λ (stop : Stop). stop.start) change.stop) shown.run
    → started ≡ past_start change.start shown.migration stopped
    → t5 ≡ t4 ++ perfetto_migration (next_arrow stopped) (left_run stopped shown.migration)
    → new ≡ past_reading s shown.reading started → t6 ≡ t5 ++ perfetto_reading s started shown.reading
    → GrowsByPart (IsPerfettoOf w names s change old new) t0 t6
events_added w names s change shown old woken stopped started new t0 t1 t2 t3 t4 t5 t6 is e1 h2 e2 e3 h4 e4 h5 e5 h6 e6 = (
  _,
  record {
    shown = shown;
    is_shown = is;
    woken = woken;
    stopped = stopped;
    started = started;
    after_wake = h2;
    after_stop = h4;
    after_start = h5;
    after_all = h6;
    whole = refl;
  },
  six t0 t1 t2 t3 t4 t5 t6 (perfetto_overruled shown.overruled change.reading)
      (perfetto_wake names (next_arrow old) shown.wake) (perfetto_pull names shown.pull)
      (perfetto_run names s woken (option_map (λ (stop : Stop). stop.start) change.stop) shown.run)
      (perfetto_migration (next_arrow stopped) (left_run stopped shown.migration))
      (perfetto_reading s started shown.reading) e1 e2 e3 e4 e5 e6,
)
