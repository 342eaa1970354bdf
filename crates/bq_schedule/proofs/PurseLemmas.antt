-- What each move of a schedule leaves of what tasks are given: where they are runnable, their weights, and what they have.
use Rattle.std.proofs.Common.{◌≡◌, ℕ, ◌+◌, ◌-◌, ◌*◌, ◌<◌, ◌≤◌, Bool, true, false, List, [], ◌∷◌, length, get_or, Option, Some, None, refl, sym, ap, ◌∙◌, cond, suc, subst, arith}
use Rattle.std.specs.List.{sum_by}
use Rattle.std.proofs.lemmas.List.{length-set}
use Rattle.std.proofs.lemmas.List.Sums.{sum_by-cons}
use Rattle.bq_hooks.specs.declared.hook.Hook.{Hook}
use Rattle.bq_hooks.specs.declared.hook.Hook.TheVariants.{Place, Preempt, Pull}
use Rattle.bq_schedule.specs.declared.change.Decision.{Decision}
use Rattle.bq_schedule.specs.declared.change.Start.{Start}
use Rattle.bq_schedule.specs.declared.change.StopReason.{StopReason}
use Rattle.bq_schedule.specs.declared.change.StopReason.TheVariants.{Preempted, Blocked}
use Rattle.bq_schedule.specs.declared.figures.TaskFigures.{TaskFigures}
use Rattle.bq_schedule.specs.declared.figures.ProcessorFigures.{ProcessorFigures}
use Rattle.bq_schedule.specs.Figures.{Figures, unread, unknown, processor_in_figures, task_in_figures, figures_with_processor, figures_with_task}
use Rattle.bq_schedule.specs.Running.{stopped, started, begun_if, starts_as, processor_runs, figures_switched, is_run_by, with_latency}
use Rattle.bq_schedule.specs.Steps.{processor_counted, figures_counted}
use Rattle.bq_schedule.specs.Slices.{is_this}
use Rattle.bq_schedule.specs.FairTimes.{weight_there, weights_at}
use Rattle.bq_schedule.proofs.FrameLemmas.{processor_kept, task_kept, processors-begun_if}

-- lists alike under f and g have the same sum
pub sums_like : {X : Type 0} (f g : X → ℕ) (d : X) (xs ys : List X)
    → length xs ≡ length ys → ((j : ℕ) → f (get_or xs j d) ≡ g (get_or ys j d)) → sum_by f xs ≡ sum_by g ys
sums_like f g d [] [] e h = refl
sums_like f g d [] (y ∷ ys) e h = absurd (omega arith)
sums_like f g d (x ∷ xs) [] e h = absurd (omega arith)
sums_like f g d (x ∷ xs) (y ∷ ys) e h =
    let tails : length xs ≡ length ys = omega arith in
    omega (arith, sum_by-cons f x xs, sum_by-cons g y ys, h 0, sums_like f g d xs ys tails (λ j. h (suc j)))

-- what a task has, and what a processor gives
pub record Purse : Type 0 where
  pub processor : Option ℕ
  pub weight : ℕ
  pub joined : ℕ
  pub accrued : ℕ

-- of a task's figures, its processor, its weight and what it was given
abbrev pub purse : TaskFigures → Purse
purse t = record { processor = t.processor; weight = t.weight; joined = t.shared_at_arrival; accrued = t.earlier_fair_time }

-- the weight at a processor, and what each unit of weight was given there
pub record Pot : Type 0 where
  pub weight : ℕ
  pub shared : ℕ

-- of a processor's figures, the weight there, and what each unit of it was given
abbrev pub pot : ProcessorFigures → Pot
pot p = record { weight = p.weight; shared = p.shared }

-- what keeps both
pub record KeepsPurses (s s' : Figures) : Type 0 where
  pub pots : (j : ℕ) → pot (processor_in_figures s' j) ≡ pot (processor_in_figures s j)
  pub purses : (id : ℕ) → purse (task_in_figures s' id) ≡ purse (task_in_figures s id)
  pub count : length s'.processors ≡ length s.processors
  pub tasks : length s'.tasks ≡ length s.tasks

-- what changes nothing keeps purses and pots
pub kept-id : (s : Figures) → KeepsPurses s s
kept-id s = record { pots = λ j. refl; purses = λ id. refl; count = refl; tasks = refl }

-- two changes that keep purses and pots keep them one after the other
pub kept-then : (s t u : Figures) → KeepsPurses s t → KeepsPurses t u → KeepsPurses s u
kept-then s t u a b = record {
  pots = λ j. b.pots j ∙ a.pots j;
  purses = λ id. b.purses id ∙ a.purses id;
  count = b.count ∙ a.count;
  tasks = b.tasks ∙ a.tasks;
}

-- a processor that is set, with the same pot, keeps purses and pots
pub kept-with_processor : (s : Figures) (i : ℕ) (p : ProcessorFigures)
    → pot p ≡ pot (processor_in_figures s i) → KeepsPurses s (figures_with_processor s i p)
kept-with_processor s i p e =
    record { pots = λ j. processor_kept pot s i j p e; purses = λ id. refl; count = length-set s.processors i p; tasks = refl }

-- a task that is set, with the same purse, keeps purses and pots
pub kept-with_task : (s : Figures) (i : ℕ) (t : TaskFigures) → purse t ≡ purse (task_in_figures s i) → KeepsPurses s (figures_with_task s i t)
kept-with_task s i t e =
    record { pots = λ j. refl; purses = λ id. task_kept purse s i id t e; count = refl; tasks = length-set s.tasks i t }

-- a decision that is counted keeps its processor's pot
pot-processor_counted : (p : ProcessorFigures) (d : Decision) (h : Hook) → pot (processor_counted p d h) ≡ pot p
pot-processor_counted p d Place = refl
pot-processor_counted p d Preempt = refl
pot-processor_counted p d Pull = refl

-- a decision that is counted keeps purses and pots
pub kept-counted : (processor : ℕ) (d : Decision) (s : Figures) → KeepsPurses s (figures_counted processor d s)
kept-counted processor d s = kept-with_processor s processor _ (pot-processor_counted (processor_in_figures s processor) d d.hook)

-- a latency that is counted keeps the task's purse
purse-with_latency : (t : TaskFigures) (n : Option ℕ) → purse (with_latency t n) ≡ purse t
purse-with_latency t None = refl
purse-with_latency t (Some n) = refl

-- what is counted of a task that ceases to run, and of one that begins, keeps purses and pots:
kept-stopped : (reason : StopReason) (now : ℕ) (running : Option Start) (s : Figures) → KeepsPurses s (stopped reason now running s)
kept-stopped reason now None s = kept-id s
kept-stopped Blocked now (Some old) s = kept-id s
kept-stopped Preempted now (Some old) s = kept-with_task s old.task _ refl

kept-begun_if : (processor now : ℕ) (run : Option ℕ) (s : Figures) → KeepsPurses s (begun_if processor now run s)
kept-begun_if processor now None s = kept-id s
kept-begun_if processor now (Some id) s = kept-with_task s id _ (purse-with_latency (task_in_figures s id) _)

-- a processor that is set to run a task, or none, keeps its pot
pot-processor_runs : (p : ProcessorFigures) (o : Option Start) → pot (processor_runs p o) ≡ pot p
pot-processor_runs p None = refl
pot-processor_runs p (Some start) = refl

-- a start at a processor keeps purses and pots, and so does a switch, whether another task runs or not:
kept-started : (processor now : ℕ) (run : Option ℕ) (s : Figures) → KeepsPurses s (started processor now run s)
kept-started processor now run s =
    let e : processor_in_figures (begun_if processor now run s) processor ≡ processor_in_figures s processor =
    ap (λ l. get_or l processor unread) (processors-begun_if processor now run s) in
    kept-then s (begun_if processor now run s) _ (kept-begun_if processor now run s)
    (kept-with_processor (begun_if processor now run s) processor _
    (pot-processor_runs (processor_in_figures s processor) (starts_as processor now run s) ∙ ap pot (sym e)))

kept-switched_if : (b : Bool) (reason : StopReason) (processor now : ℕ) (run : Option ℕ) (s : Figures) →
    KeepsPurses s (cond b s (started processor now run (stopped reason now (processor_in_figures s processor).running s)))
kept-switched_if true reason processor now run s = kept-id s
kept-switched_if false reason processor now run s =
    let t = stopped reason now (processor_in_figures s processor).running s in
    kept-then s t _ (kept-stopped reason now (processor_in_figures s processor).running s) (kept-started processor now run t)

-- a switch to a task, or to none, keeps purses and pots
pub kept-switched : (reason : StopReason) (processor now : ℕ) (run : Option ℕ) (s : Figures) → KeepsPurses s (figures_switched reason processor now run s)
kept-switched reason processor now run s = kept-switched_if (is_run_by (processor_in_figures s processor).running run) reason processor now run s

-- the fair time of a purse, where so much was given at each processor
abbrev pub worth_at : (ℕ → ℕ) → Purse → Option ℕ → ℕ
worth_at shared u None = u.accrued
worth_at shared u (Some processor) = u.accrued + u.weight * (shared processor - u.joined)

-- what each unit of weight was given at a processor
abbrev pub shared_at : Figures → ℕ → ℕ
shared_at s processor = (processor_in_figures s processor).shared

-- what a task has, counted without end
abbrev pub uncapped_of : Figures → TaskFigures → ℕ
uncapped_of s t = worth_at (shared_at s) (purse t) t.processor

-- what the task of an id has, counted without end
abbrev pub uncapped : Figures → ℕ → ℕ
uncapped s id = uncapped_of s (task_in_figures s id)

-- a purse is worth the same where each processor gave the same
pub worth-same : (f g : ℕ → ℕ) (u : Purse) (o : Option ℕ) → ((j : ℕ) → f j ≡ g j) → worth_at f u o ≡ worth_at g u o
worth-same f g u None h = refl
worth-same f g u (Some processor) h = ap (λ n. u.accrued + u.weight * (n - u.joined)) (h processor)

-- a task whose purse stays has what it had, where each processor gave the same
pub uncapped-kept : (s s' : Figures) (id : ℕ) → ((j : ℕ) → shared_at s' j ≡ shared_at s j)
    → purse (task_in_figures s' id) ≡ purse (task_in_figures s id)
    → uncapped s' id ≡ uncapped s id
uncapped-kept s s' id h e =
    worth-same (shared_at s') (shared_at s) (purse (task_in_figures s' id)) (task_in_figures s' id).processor h
    ∙ ap (λ (u : Purse). worth_at (shared_at s) u u.processor) e

-- the weight of a purse at a processor, if it is there
abbrev pub weight_of_purse : ℕ → Purse → ℕ
weight_of_purse processor u = cond (is_this processor u.processor) u.weight 0

-- what keeps purses and pots keeps the weights at each processor together
pub weights-kept : (s s' : Figures) (processor : ℕ) → KeepsPurses s s' → weights_at s' processor ≡ weights_at s processor
weights-kept s s' processor k =
    sums_like (weight_there processor) (weight_there processor) unknown s'.tasks s.tasks k.tasks
    (λ j. ap (weight_of_purse processor) (k.purses j))

-- what had been given where a task came to stand is no more than what is given there now
abbrev pub JoinedBy : (ℕ → ℕ) → Purse → Option ℕ → Type 0
JoinedBy shared u None = Unit {0}
JoinedBy shared u (Some processor) = u.joined ≤ shared processor

-- what had been given when a purse came is still no more than what is given, where that falls nowhere
pub joined-more : (f g : ℕ → ℕ) (u : Purse) (o : Option ℕ) → ((j : ℕ) → f j ≤ g j) → JoinedBy f u o → JoinedBy g u o
joined-more f g u None h e = tt
joined-more f g u (Some processor) h e = omega (arith, h processor, e)

-- what each processor gives is by the weights there; each task came after what was given before; and weights are the table's
pub record IsSound (s : Figures) : Type 0 where
  pub weights : (processor : ℕ) → processor < length s.processors → (processor_in_figures s processor).weight ≡ weights_at s processor
  pub joined : (id : ℕ) → JoinedBy (shared_at s) (purse (task_in_figures s id)) (task_in_figures s id).processor
  pub table : (id : ℕ) → (task_in_figures s id).weight ≤ 88761
  pub ids : length s.tasks ≡ 1024

-- what had been given when a purse came is no more than what is given, if so of one that is the same
pub joined-same : (f : ℕ → ℕ) (u v : Purse) → u ≡ v → JoinedBy f v v.processor → JoinedBy f u u.processor
joined-same f u v e h = let P : Purse → Type 0 = λ w. JoinedBy f w w.processor in subst P (sym e) h

-- what keeps purses and pots keeps all sound
pub sound-kept : (s s' : Figures) → KeepsPurses s s' → IsSound s → IsSound s'
sound-kept s s' k h = record {
  weights = λ processor inside.
      ap (λ (q : Pot). q.weight) (k.pots processor) ∙ h.weights processor (omega (arith, k.count))
      ∙ sym (weights-kept s s' processor k);
  joined = λ id.
      joined-same (shared_at s') (purse (task_in_figures s' id)) (purse (task_in_figures s id)) (k.purses id)
      (joined-more (shared_at s) (shared_at s') (purse (task_in_figures s id)) (task_in_figures s id).processor
      (λ j. omega (arith, ap (λ (q : Pot). q.shared) (k.pots j))) (h.joined id));
  table = λ id. omega (arith, h.table id, ap (λ (u : Purse). u.weight) (k.purses id));
  ids = k.tasks ∙ h.ids;
}
