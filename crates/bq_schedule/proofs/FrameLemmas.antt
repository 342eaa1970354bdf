-- What each move of a schedule leaves as it was. A processor's works are what only a reading of its clock changes.
use Rattle.std.proofs.Common.{◌≡◌, ◌≢◌, ℕ, ◌<◌, ◌≤◌, Bool, true, false, List, length, get_or, Option, Some, None, refl, sym, ap, ◌∙◌, inl, inr, get_or-set_same, get_or-set_other, eqb, leb, cond, arith}
use Rattle.std.proofs.lemmas.List.{set_past, length-set}
use Rattle.std.proofs.lemmas.Bool.Decides.{eqb_tells, leb_tells, nat_tests}
use Rattle.std.specs.Prelude.{slice_set}
use Rattle.std.specs.Option.{option_map}
use Rattle.bq_hooks.specs.declared.hook.Hook.{Hook}
use Rattle.bq_hooks.specs.declared.hook.Hook.TheVariants.{Place, Preempt, Pull}
use Rattle.bq_schedule.specs.declared.slice.Slice.{Slice}
use Rattle.bq_schedule.specs.declared.change.Decision.{Decision}
use Rattle.bq_schedule.specs.declared.change.Start.{Start}
use Rattle.bq_schedule.specs.declared.change.StopReason.{StopReason}
use Rattle.bq_schedule.specs.declared.change.StopReason.TheVariants.{Preempted, Blocked}
use Rattle.bq_schedule.specs.declared.figures.TaskFigures.{TaskFigures}
use Rattle.bq_schedule.specs.declared.figures.ProcessorFigures.{ProcessorFigures}
use Rattle.bq_schedule.specs.Figures.{Figures, unread, unknown, processor_in_figures, task_in_figures, figures_with_processor, figures_with_task}
use Rattle.bq_schedule.specs.Passing.{with_charged, figures_read, processor_read}
use Rattle.bq_schedule.specs.Runnable.{left_from, figures_left, joins, comes}
use Rattle.bq_schedule.specs.Running.{running_task, stopped, started, begun_if, starts_as, processor_runs, figures_switched, is_run_by, with_latency}
use Rattle.bq_schedule.specs.Steps.{processor_counted, figures_counted, waited_there, figures_taken}
use Rattle.bq_schedule.proofs.TestLemmas.{Tells, get_or-set_at}

-- a place of a list is set to what f cannot tell from what was there
get_or-set_case : {X Y : Type 0} (f : X → Y) (xs : List X) (i j : ℕ) (y d : X) (b c : Bool) → f y ≡ f (get_or xs i d) →
    Tells b (j ≡ i) (j ≢ i) → Tells c (length xs ≤ i) (i < length xs) →
    f (get_or (slice_set xs i y) j d) ≡ f (get_or xs j d)
get_or-set_case f xs i j y d b c e (inl same) (inr inside) =
    ap (λ k. f (get_or (slice_set xs i y) k d)) same.1 ∙ ap f (get_or-set_same xs i y d inside.1) ∙ e
    ∙ ap (λ k. f (get_or xs k d)) (sym same.1)
get_or-set_case f xs i j y d b c e (inl same) (inl past) = ap (λ l. f (get_or l j d)) (set_past xs i y past.1)
get_or-set_case f xs i j y d b c e (inr other) within = ap f (get_or-set_other xs i j y d other.1)

-- where a place is set to what f cannot tell from what was there, f reads each place as before
pub get_or-set_like : {X Y : Type 0} (f : X → Y) (xs : List X) (i j : ℕ) (y d : X)
    → f y ≡ f (get_or xs i d) → f (get_or (slice_set xs i y) j d) ≡ f (get_or xs j d)
get_or-set_like f xs i j y d e = get_or-set_case f xs i j y d (eqb j i) (leb (length xs) i) e (eqb_tells j i) (leb_tells (length xs) i)

-- a processor that is set to one that f cannot tell from it changes f of none
pub processor_kept : {Y : Type 0} (f : ProcessorFigures → Y) (s : Figures) (i j : ℕ) (p : ProcessorFigures) → f p ≡ f (processor_in_figures s i) →
    f (processor_in_figures (figures_with_processor s i p) j) ≡ f (processor_in_figures s j)
processor_kept f s i j p e = get_or-set_like f s.processors i j p unread e

-- a task that is set to one that f cannot tell from it changes f of none
pub task_kept : {Y : Type 0} (f : TaskFigures → Y) (s : Figures) (i j : ℕ) (t : TaskFigures) → f t ≡ f (task_in_figures s i) →
    f (task_in_figures (figures_with_task s i t) j) ≡ f (task_in_figures s j)
task_kept f s i j t e = get_or-set_like f s.tasks i j t unknown e

-- after a processor is set, f reads of it what is set, and of each other what it was
pub processor_set : {Y : Type 0} (f : ProcessorFigures → Y) (s : Figures) (i j : ℕ) (p : ProcessorFigures) → (i ≡ j → j < length s.processors)
    → f (processor_in_figures (figures_with_processor s i p) j) ≡ cond (eqb i j) (f p) (f (processor_in_figures s j))
processor_set f s i j p inside = get_or-set_at f s.processors i j p unread inside

-- after a task is set, f reads of it what is set, and of each other what it was
pub task_set : {Y : Type 0} (f : TaskFigures → Y) (s : Figures) (i j : ℕ) (t : TaskFigures) → (i ≡ j → j < length s.tasks)
    → f (task_in_figures (figures_with_task s i t) j) ≡ cond (eqb i j) (f t) (f (task_in_figures s j))
task_set f s i j t inside = get_or-set_at f s.tasks i j t unknown inside

-- what only a reading of the clock changes
pub record Works : Type 0 where
  pub first : Option ℕ
  pub last : ℕ
  pub run : Option Slice
  pub busy : ℕ
  pub shared : ℕ
  pub unshared : ℕ

-- of a processor's figures, those that only a reading of its clock changes
abbrev pub works : ProcessorFigures → Works
works p = record { first = p.first; last = p.last; run = p.run; busy = p.busy; shared = p.shared; unshared = p.unshared }

-- a decision that is counted keeps its processor's works, and who runs there:
works-processor_counted : (p : ProcessorFigures) (d : Decision) (h : Hook) → works (processor_counted p d h) ≡ works p
works-processor_counted p d Place = refl
works-processor_counted p d Preempt = refl
works-processor_counted p d Pull = refl

running-processor_counted : (p : ProcessorFigures) (d : Decision) (h : Hook) → (processor_counted p d h).running ≡ p.running
running-processor_counted p d Place = refl
running-processor_counted p d Preempt = refl
running-processor_counted p d Pull = refl

-- what keeps everything of the processors but who runs, what is runnable, and counts
pub record KeepsWorks (s s' : Figures) : Type 0 where
  pub at : (j : ℕ) → works (processor_in_figures s' j) ≡ works (processor_in_figures s j)
  pub count : length s'.processors ≡ length s.processors
  pub tasks : length s'.tasks ≡ length s.tasks
  pub times : (id : ℕ) → (task_in_figures s' id).time ≡ (task_in_figures s id).time

-- each processor runs what it ran
pub record KeepsRunning (s s' : Figures) : Type 0 where
  pub at : (j : ℕ) → (processor_in_figures s' j).running ≡ (processor_in_figures s j).running

-- what changes nothing keeps the works
pub works-id : (s : Figures) → KeepsWorks s s
works-id s = record { at = λ j. refl; count = refl; tasks = refl; times = λ id. refl }

-- two changes that keep the works keep them one after the other
pub works-then : (s t u : Figures) → KeepsWorks s t → KeepsWorks t u → KeepsWorks s u
works-then s t u a b =
    record { at = λ j. b.at j ∙ a.at j; count = b.count ∙ a.count; tasks = b.tasks ∙ a.tasks; times = λ id. b.times id ∙ a.times id }

-- two changes that keep who runs keep it one after the other
pub running-then : (s t u : Figures) → KeepsRunning s t → KeepsRunning t u → KeepsRunning s u
running-then s t u a b = record { at = λ j. b.at j ∙ a.at j }

-- what changes nothing keeps who runs
pub running-id : (s : Figures) → KeepsRunning s s
running-id s = record { at = λ j. refl }

-- a processor whose works stay
pub works-with_processor : (s : Figures) (i : ℕ) (p : ProcessorFigures)
    → works p ≡ works (processor_in_figures s i) → KeepsWorks s (figures_with_processor s i p)
works-with_processor s i p e =
    record { at = λ j. processor_kept works s i j p e; count = length-set s.processors i p; tasks = refl; times = λ id. refl }

-- a processor that is set, where the same runs as before, keeps who runs
pub running-with_processor : (s : Figures) (i : ℕ) (p : ProcessorFigures)
    → p.running ≡ (processor_in_figures s i).running → KeepsRunning s (figures_with_processor s i p)
running-with_processor s i p e = record { at = λ j. processor_kept (λ q. q.running) s i j p e }

-- a task whose time stays
pub works-with_task : (s : Figures) (i : ℕ) (t : TaskFigures) → t.time ≡ (task_in_figures s i).time → KeepsWorks s (figures_with_task s i t)
works-with_task s i t e =
    record { at = λ j. refl; count = refl; tasks = length-set s.tasks i t; times = λ id. task_kept (λ u. u.time) s i id t e }

-- a task that is set keeps who runs
pub running-with_task : (s : Figures) (i : ℕ) (t : TaskFigures) → KeepsRunning s (figures_with_task s i t)
running-with_task s i t = record { at = λ j. refl }

-- a decision that is counted keeps the works
pub works-counted : (processor : ℕ) (d : Decision) (s : Figures) → KeepsWorks s (figures_counted processor d s)
works-counted processor d s = works-with_processor s processor _ (works-processor_counted (processor_in_figures s processor) d d.hook)

-- a decision that is counted keeps who runs
pub running-counted : (processor : ℕ) (d : Decision) (s : Figures) → KeepsRunning s (figures_counted processor d s)
running-counted processor d s = running-with_processor s processor _ (running-processor_counted (processor_in_figures s processor) d d.hook)

-- a task that leaves a processor, or none, keeps the works, and who runs:
works-left_from : (id : ℕ) (s : Figures) (processor : Option ℕ) → KeepsWorks s (left_from id s processor)
works-left_from id s None = works-id s
works-left_from id s (Some processor) = works-then _ _ _ (works-with_processor s processor _ refl) (works-with_task _ id _ refl)

running-left_from : (id : ℕ) (s : Figures) (processor : Option ℕ) → KeepsRunning s (left_from id s processor)
running-left_from id s None = running-id s
running-left_from id s (Some processor) = running-then _ _ _ (running-with_processor s processor _ refl) (running-with_task _ id _)

-- a task that leaves its processor keeps the works
pub works-leaves : (id : ℕ) (s : Figures) → KeepsWorks s (figures_left id s)
works-leaves id s = works-left_from id s (task_in_figures s id).processor

-- a task that leaves its processor keeps who runs
pub running-leaves : (id : ℕ) (s : Figures) → KeepsRunning s (figures_left id s)
running-leaves id s = running-left_from id s (task_in_figures s id).processor

-- a task that joins a processor keeps the works
pub works-joins : (id processor now : ℕ) (s : Figures) → KeepsWorks s (joins id processor now s)
works-joins id processor now s = works-then _ _ _ (works-with_processor s processor _ refl) (works-with_task _ id _ refl)

-- a task that joins a processor keeps who runs
running-joins : (id processor now : ℕ) (s : Figures) → KeepsRunning s (joins id processor now s)
running-joins id processor now s = running-then _ _ _ (running-with_processor s processor _ refl) (running-with_task _ id _)

-- a task that comes from wherever it was keeps the works
pub works-comes : (id processor now : ℕ) (s : Figures) → KeepsWorks s (comes id processor now s)
works-comes id processor now s = works-then _ _ _ (works-leaves id s) (works-joins id processor now (figures_left id s))

-- a task that comes from wherever it was keeps who runs
pub running-comes : (id processor now : ℕ) (s : Figures) → KeepsRunning s (comes id processor now s)
running-comes id processor now s = running-then _ _ _ (running-leaves id s) (running-joins id processor now (figures_left id s))

-- a task that is pulled, if there is one, keeps the works
pub works-taken : (processor now : ℕ) (task : Option ℕ) (s : Figures) → KeepsWorks s (figures_taken processor now task s)
works-taken processor now None s = works-id s
works-taken processor now (Some id) s =
    works-then _ _ _ (works-with_task s id _ refl) (works-comes id processor now (waited_there id now s))

-- a task that is pulled, if there is one, keeps who runs
pub running-taken : (processor now : ℕ) (task : Option ℕ) (s : Figures) → KeepsRunning s (figures_taken processor now task s)
running-taken processor now None s = running-id s
running-taken processor now (Some id) s =
    running-then _ _ _ (running-with_task s id _) (running-comes id processor now (waited_there id now s))

-- a latency that is counted keeps the task's time
time-with_latency : (t : TaskFigures) (n : Option ℕ) → (with_latency t n).time ≡ t.time
time-with_latency t None = refl
time-with_latency t (Some n) = refl

-- what ceases to run keeps the works
pub works-stopped : (reason : StopReason) (now : ℕ) (running : Option Start) (s : Figures) → KeepsWorks s (stopped reason now running s)
works-stopped reason now None s = works-id s
works-stopped Blocked now (Some old) s = works-id s
works-stopped Preempted now (Some old) s = works-with_task s old.task _ refl

-- what is counted of a task that ceases to run keeps who runs
running-stopped : (reason : StopReason) (now : ℕ) (running : Option Start) (s : Figures) → KeepsRunning s (stopped reason now running s)
running-stopped reason now None s = running-id s
running-stopped Blocked now (Some old) s = running-id s
running-stopped Preempted now (Some old) s = running-with_task s old.task _

-- a task that begins to run, or none, keeps the works
works-begun_if : (processor now : ℕ) (run : Option ℕ) (s : Figures) → KeepsWorks s (begun_if processor now run s)
works-begun_if processor now None s = works-id s
works-begun_if processor now (Some id) s = works-with_task s id _ (time-with_latency (task_in_figures s id) _)

-- a task that begins to run, or none, keeps the processors
pub processors-begun_if : (processor now : ℕ) (run : Option ℕ) (s : Figures) → (begun_if processor now run s).processors ≡ s.processors
processors-begun_if processor now None s = refl
processors-begun_if processor now (Some id) s = refl

-- a processor that is set to run a task, or none, keeps its works
works-processor_runs : (p : ProcessorFigures) (o : Option Start) → works (processor_runs p o) ≡ works p
works-processor_runs p None = refl
works-processor_runs p (Some start) = refl

-- a start at a processor keeps the works, and so does a switch, whether another task runs or not:
works-started : (processor now : ℕ) (run : Option ℕ) (s : Figures) → KeepsWorks s (started processor now run s)
works-started processor now run s =
    let e : processor_in_figures (begun_if processor now run s) processor ≡ processor_in_figures s processor =
    ap (λ l. get_or l processor unread) (processors-begun_if processor now run s) in
    works-then _ _ _ (works-begun_if processor now run s)
    (works-with_processor (begun_if processor now run s) processor _
    (works-processor_runs (processor_in_figures s processor) (starts_as processor now run s) ∙ ap works (sym e)))

works-switched_if : (b : Bool) (reason : StopReason) (processor now : ℕ) (run : Option ℕ) (s : Figures) →
    KeepsWorks s (cond b s (started processor now run (stopped reason now (processor_in_figures s processor).running s)))
works-switched_if true reason processor now run s = works-id s
works-switched_if false reason processor now run s =
    works-then _ _ _ (works-stopped reason now (processor_in_figures s processor).running s)
    (works-started processor now run (stopped reason now (processor_in_figures s processor).running s))

-- a switch to a task, or to none, keeps the works
pub works-switched : (reason : StopReason) (processor now : ℕ) (run : Option ℕ) (s : Figures) → KeepsWorks s (figures_switched reason processor now run s)
works-switched reason processor now run s = works-switched_if (is_run_by (processor_in_figures s processor).running run) reason processor now run s

-- what is reported of who runs at a processor holds afterwards, and at the others it is as it was
abbrev pub RunsAs : Option (Option ℕ) → ℕ → Figures → Figures → Type 0
RunsAs None processor s s' = KeepsRunning s s'
RunsAs (Some run) processor s s' =
    (running_task (processor_in_figures s' processor) ≡ run)
    × ((j : ℕ) → j ≢ processor → (processor_in_figures s' j).running ≡ (processor_in_figures s j).running)

-- what is reported of who runs holds too where a step stands before it that keeps who runs
pub runs-after : (o : Option (Option ℕ)) (processor : ℕ) (s t u : Figures)
    → KeepsRunning s t → RunsAs o processor t u → RunsAs o processor s u
runs-after None processor s t u a b = running-then s t u a b
runs-after (Some run) processor s t u a b = (b.0, λ j ne. b.1 j ne ∙ a.at j)

-- what is reported of who runs holds too where a step follows it that keeps who runs
pub runs-before : (o : Option (Option ℕ)) (processor : ℕ) (s t u : Figures)
    → RunsAs o processor s t → KeepsRunning t u → RunsAs o processor s u
runs-before None processor s t u a b = running-then s t u a b
runs-before (Some run) processor s t u a b = (ap (option_map (λ (x : Start). x.task)) (b.at processor) ∙ a.0, λ j ne. b.at j ∙ a.1 j ne)

-- the task that a processor is set to run is the one that runs there
running_task-processor_runs : (p : ProcessorFigures) (processor now : ℕ) (run : Option ℕ) (s : Figures)
    → running_task (processor_runs p (starts_as processor now run s)) ≡ run
running_task-processor_runs p processor now None s = refl
running_task-processor_runs p processor now (Some id) s = refl

-- after a start the processor runs the task that starts, and each other what it ran
runs-started : (processor now : ℕ) (run : Option ℕ) (s : Figures)
    → processor < length s.processors → RunsAs (Some run) processor s (started processor now run s)
runs-started processor now run s inside =
    let e : (begun_if processor now run s).processors ≡ s.processors = processors-begun_if processor now run s in
    let q = processor_runs (processor_in_figures s processor) (starts_as processor now run s) in (
      ap (λ l. running_task (get_or (slice_set l processor q) processor unread)) e
          ∙ ap running_task (get_or-set_same s.processors processor q unread inside)
          ∙ running_task-processor_runs (processor_in_figures s processor) processor now run s,
      λ j ne.
          ap (λ l. (get_or (slice_set l processor q) j unread).running) e
          ∙ ap (λ (p : ProcessorFigures). p.running) (get_or-set_other s.processors processor j q unread ne),
    )

-- where a task is the one that runs, or none is, it is who runs
pub who_is : (running : Option Start) (run : Option ℕ) → is_run_by running run ≡ true → option_map (λ (x : Start). x.task) running ≡ run
who_is None None e = refl
who_is None (Some id) e = cc
who_is (Some start) None e = cc
who_is (Some start) (Some id) e = grind (arith, nat_tests)

-- so it is after a switch, whether another task runs or not
runs-switched_if : (b : Bool) (reason : StopReason) (processor now : ℕ) (run : Option ℕ) (s : Figures)
    → is_run_by (processor_in_figures s processor).running run ≡ b → processor < length s.processors
    → RunsAs (Some run) processor s (cond b s (started processor now run (stopped reason now (processor_in_figures s processor).running s)))
runs-switched_if true reason processor now run s e inside = (who_is (processor_in_figures s processor).running run e, λ j ne. refl)
runs-switched_if false reason processor now run s e inside =
    let t = stopped reason now (processor_in_figures s processor).running s in
    let inside' : processor < length t.processors = omega (arith, (works-stopped reason now (processor_in_figures s processor).running s).count) in
    runs-after (Some run) processor s t (started processor now run t)
    (running-stopped reason now (processor_in_figures s processor).running s) (runs-started processor now run t inside')

-- after a switch the processor runs whom it was to run, and the others whom they ran
pub runs-switched : (reason : StopReason) (processor now : ℕ) (run : Option ℕ) (s : Figures)
    → processor < length s.processors → RunsAs (Some run) processor s (figures_switched reason processor now run s)
runs-switched reason processor now run s inside =
    runs-switched_if (is_run_by (processor_in_figures s processor).running run) reason processor now run s refl inside

-- to charge a task for a slice keeps who runs
running-with_charged : (s : Figures) (o : Option Slice) → KeepsRunning s (with_charged s o)
running-with_charged s None = running-id s
running-with_charged s (Some x) = running-with_task s x.task _

-- a reading of a clock keeps who runs
pub running-read_at : (processor now : ℕ) (s : Figures) → KeepsRunning s (figures_read processor now s)
running-read_at processor now s = running-then _ _ _ (running-with_processor s processor _ refl) (running-with_charged _ _)

-- to charge a task for a slice changes no processor
count-with_charged : (s : Figures) (o : Option Slice) → (with_charged s o).processors ≡ s.processors
count-with_charged s None = refl
count-with_charged s (Some x) = refl

-- a reading sets the processor whose clock is read, and no other
pub processors-read_at : (processor now : ℕ) (s : Figures)
    → (figures_read processor now s).processors ≡ slice_set s.processors processor (processor_read processor (processor_in_figures s processor) now)
processors-read_at processor now s = count-with_charged _ _

-- after a reading there are as many processors as before
pub count-read_at : (processor now : ℕ) (s : Figures) → length (figures_read processor now s).processors ≡ length s.processors
count-read_at processor now s =
    ap (λ (l : List ProcessorFigures). length l) (processors-read_at processor now s) ∙ length-set s.processors processor _

-- to charge a task for a slice leaves as many tasks as before
tasks-with_charged : (s : Figures) (o : Option Slice) → length (with_charged s o).tasks ≡ length s.tasks
tasks-with_charged s None = refl
tasks-with_charged s (Some x) = length-set s.tasks x.task _

-- after a reading there are as many tasks as before
pub tasks-read_at : (processor now : ℕ) (s : Figures) → length (figures_read processor now s).tasks ≡ length s.tasks
tasks-read_at processor now s = tasks-with_charged (figures_with_processor s processor (processor_read processor (processor_in_figures s processor) now)) _
