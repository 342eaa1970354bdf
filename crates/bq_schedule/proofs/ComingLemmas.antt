-- A task that comes to a processor, or is admitted, has what it had.
use Rattle.std.proofs.Common.{◌≡◌, ◌≢◌, ℕ, ◌+◌, ◌-◌, ◌*◌, ◌<◌, ◌≤◌, Bool, true, false, length, get_or, Option, Some, None, refl, sym, ap, ◌∙◌, inl, inr, eqb, leb, cond, arith}
use Rattle.std.specs.Prelude.{ℤ}
use Rattle.std.specs.List.{sum_by}
use Rattle.std.proofs.lemmas.Bool.Decides.{eqb_tells, leb_tells}
use Rattle.std.proofs.lemmas.List.{set_past, length-set}
use Rattle.bq_schedule.specs.declared.figures.TaskFigures.{TaskFigures}
use Rattle.bq_schedule.specs.declared.figures.ProcessorFigures.{ProcessorFigures}
use Rattle.bq_disc.specs.Counts.{saturating_sum}
use Rattle.bq_schedule.specs.Figures.{Figures, unknown, processor_in_figures, task_in_figures, figures_with_processor, figures_with_task}
use Rattle.bq_schedule.specs.Runnable.{processor_joined, joins}
use Rattle.bq_schedule.specs.Steps.{figures_admitted}
use Rattle.bq_schedule.specs.FairTimes.{weight_there, weights_at}
use Rattle.bq_schedule.proofs.TestLemmas.{Tells}
use Rattle.bq_schedule.proofs.FrameLemmas.{task_kept, processor_set, task_set}
use Rattle.bq_schedule.proofs.PurseLemmas
use Rattle.bq_schedule.proofs.LeavingLemmas.{weight-here, weight-elsewhere, weight-nowhere, weights-few, weights-set, shared-with_processor, joined-set, uncapped-set, beyond_table, weight_at-le}

-- each task has what it had, and all stays sound
pub record Stays (s s' : Figures) : Type 0 where
  pub sound : PurseLemmas.IsSound s'
  pub uncapped_after : (j : ℕ) → PurseLemmas.uncapped s' j ≡ PurseLemmas.uncapped s j

-- where a task comes to a processor, the weight counted at each is again the sum of the weights there
weights-joined : (s s' : Figures) (id processor j w : ℕ) (t' : TaskFigures) (b : Bool)
    → PurseLemmas.IsSound s → Tells b (processor ≡ j) (processor ≢ j)
    → eqb processor j ≡ b → (task_in_figures s id).processor ≡ None → t'.processor ≡ Some processor
    → t'.weight ≡ (task_in_figures s id).weight → (processor_in_figures s j).weight ≡ weights_at s j
    → weights_at s' j + weight_there j (task_in_figures s id) ≡ weights_at s j + weight_there j t'
    → w ≡ cond b (saturating_sum (processor_in_figures s processor).weight (task_in_figures s id).weight) (processor_in_figures s j).weight
    → w ≡ weights_at s' j
weights-joined s s' id processor j w t' true h (inl e) is at now_at weight old sums new =
    let same : (processor_in_figures s processor).weight ≡ (processor_in_figures s j).weight = ap (λ k. (processor_in_figures s k).weight) e.1 in
    let here : weight_there j t' ≡ t'.weight = weight-here j t' (now_at ∙ ap (λ (k : ℕ). Some k) e.1) in
    omega (arith, same, here, weight, old, sums, new, weight-nowhere j (task_in_figures s id) at, weights-few s j h, h.table id)
weights-joined s s' id processor j w t' false h (inl e) is at now_at weight old sums new = absurd (cc)
weights-joined s s' id processor j w t' true h (inr e) is at now_at weight old sums new = absurd (cc)
weights-joined s s' id processor j w t' false h (inr e) is at now_at weight old sums new =
    let here : weight_there j t' ≡ 0 = weight-elsewhere j processor t' false now_at is in
    omega (arith, here, old, sums, new, weight-nowhere j (task_in_figures s id) at)

-- a purse that has just come to a processor was given nothing there yet, so it is worth what it had:
joined-here : (f : ℕ → ℕ) (u : PurseLemmas.Purse) (processor : ℕ) (o : Option ℕ)
    → o ≡ Some processor → u.joined ≡ f processor → PurseLemmas.JoinedBy f u o
joined-here f u processor o e j = rw e (omega (arith, j))

worth-here : (f : ℕ → ℕ) (u : PurseLemmas.Purse) (processor : ℕ) (o : Option ℕ)
    → o ≡ Some processor → u.joined ≡ f processor → PurseLemmas.worth_at f u o ≡ u.accrued
worth-here f u processor o e j =
    let none : f processor - u.joined ≡ 0 = omega (arith, j) in
    ap (λ p. PurseLemmas.worth_at f u p) e ∙ ap (λ n. u.accrued + u.weight * n) none ∙ omega arith

-- a task with an id of the table comes
joined-inside : (s : Figures) (id processor : ℕ) (p : ProcessorFigures) (t' : TaskFigures)
    → PurseLemmas.IsSound s → id < length s.tasks → (task_in_figures s id).processor ≡ None → p.shared ≡ PurseLemmas.shared_at s processor
    → p.weight ≡ saturating_sum (processor_in_figures s processor).weight (task_in_figures s id).weight → t'.processor ≡ Some processor
    → t'.weight ≡ (task_in_figures s id).weight → t'.shared_at_arrival ≡ PurseLemmas.shared_at s processor → t'.earlier_fair_time ≡ (task_in_figures s id).earlier_fair_time
    → Stays s (figures_with_task (figures_with_processor s processor p) id t')
joined-inside s id processor p t' h inside at shared weight now_at same joined accrued =
    let s1 = figures_with_processor s processor p in
    let s2 = figures_with_task s1 id t' in
    let u = PurseLemmas.purse t' in
    let gives : (j : ℕ) → PurseLemmas.shared_at s2 j ≡ PurseLemmas.shared_at s j = λ j. shared-with_processor s processor p j shared in
    let is : (j : ℕ) → PurseLemmas.purse (task_in_figures s2 j) ≡ cond (eqb id j) u (PurseLemmas.purse (task_in_figures s j)) =
    λ j. task_set PurseLemmas.purse s1 id j t' (λ same. omega (arith, same, inside)) in
    let had : PurseLemmas.uncapped s id ≡ (task_in_figures s id).earlier_fair_time =
    ap (λ o. PurseLemmas.worth_at (PurseLemmas.shared_at s) (PurseLemmas.purse (task_in_figures s id)) o) at in
    record {
      sound = record {
        weights = λ j there.
            let there' : j < length s.processors = omega (arith, there, length-set s.processors processor p) in
            weights-joined s s2 id processor j (processor_in_figures s2 j).weight t' (eqb processor j) h (eqb_tells processor j) refl
            at now_at same (h.weights j there') (weights-set s1 id j t' inside)
            (processor_set (λ (q : ProcessorFigures). q.weight) s processor j p (λ same. there')
            ∙ ap (λ w. cond (eqb processor j) w (processor_in_figures s j).weight) weight);
        joined = λ j.
            joined-set s s2 j u (eqb id j) gives (is j)
            (joined-here (PurseLemmas.shared_at s) u processor t'.processor now_at joined) (h.joined j);
        table = λ j. omega (arith, h.table j, task_kept (λ (v : TaskFigures). v.weight) s1 id j t' same);
        ids = length-set s.tasks id t' ∙ h.ids;
      };
      uncapped_after = λ j.
          uncapped-set s s2 id j u gives (is j)
          (worth-here (PurseLemmas.shared_at s) u processor t'.processor now_at joined ∙ accrued ∙ sym had);
    }

-- what counts nothing more is as it was
saturating_sum-none : (s : Figures) (processor j w : ℕ) (b : Bool)
    → PurseLemmas.IsSound s → j < length s.processors → Tells b (processor ≡ j) (processor ≢ j)
    → w ≡ cond b (saturating_sum (processor_in_figures s processor).weight 0) (processor_in_figures s j).weight
    → w ≡ (processor_in_figures s j).weight
saturating_sum-none s processor j w true h there (inl e) new =
    let same : (processor_in_figures s processor).weight ≡ (processor_in_figures s j).weight = ap (λ k. (processor_in_figures s k).weight) e.1 in
    omega (arith, same, new, h.weights j there, weights-few s j h)
saturating_sum-none s processor j w false h there (inl e) new = absurd (cc)
saturating_sum-none s processor j w true h there (inr e) new = absurd (cc)
saturating_sum-none s processor j w false h there (inr e) new = new

-- one without changes nothing
joined-outside : (s : Figures) (id processor : ℕ) (p : ProcessorFigures) (t' : TaskFigures)
    → PurseLemmas.IsSound s → length s.tasks ≤ id → p.shared ≡ PurseLemmas.shared_at s processor
    → p.weight ≡ saturating_sum (processor_in_figures s processor).weight (task_in_figures s id).weight
    → Stays s (figures_with_task (figures_with_processor s processor p) id t')
joined-outside s id processor p t' h past shared weight =
    let s1 = figures_with_processor s processor p in
    let s2 = figures_with_task s1 id t' in
    let tasks : s2.tasks ≡ s.tasks = set_past s.tasks id t' past in
    let gives : (j : ℕ) → PurseLemmas.shared_at s2 j ≡ PurseLemmas.shared_at s j = λ j. shared-with_processor s processor p j shared in
    let same : (j : ℕ) → task_in_figures s2 j ≡ task_in_figures s j = λ j. ap (λ l. get_or l j unknown) tasks in
    let none : (task_in_figures s id).weight ≡ 0 = ap (λ (t : TaskFigures). t.weight) (beyond_table s id past) in
    record {
      sound = record {
        weights = λ j there.
            let there' : j < length s.processors = omega (arith, there, length-set s.processors processor p) in
            saturating_sum-none s processor j (processor_in_figures s2 j).weight (eqb processor j) h there' (eqb_tells processor j)
            (processor_set (λ (q : ProcessorFigures). q.weight) s processor j p (λ same. there')
            ∙ ap (λ w. cond (eqb processor j) w (processor_in_figures s j).weight)
            (weight ∙ ap (saturating_sum (processor_in_figures s processor).weight) none))
            ∙ h.weights j there' ∙ ap (λ l. sum_by (weight_there j) l) (sym tasks);
        joined = λ j.
            PurseLemmas.joined-more (PurseLemmas.shared_at s) (PurseLemmas.shared_at s2) (PurseLemmas.purse (task_in_figures s2 j))
            (task_in_figures s2 j).processor (λ k. omega (arith, gives k))
            (PurseLemmas.joined-same (PurseLemmas.shared_at s) (PurseLemmas.purse (task_in_figures s2 j))
            (PurseLemmas.purse (task_in_figures s j)) (ap PurseLemmas.purse (same j)) (h.joined j));
        table = λ j. omega (arith, h.table j, ap (λ (v : TaskFigures). v.weight) (same j));
        ids = length-set s.tasks id t' ∙ h.ids;
      };
      uncapped_after = λ j. PurseLemmas.uncapped-kept s s2 j gives (ap PurseLemmas.purse (same j));
    }

-- a task that is nowhere joins a processor, whether or not its id is in the table
joined-if : (s : Figures) (id processor now : ℕ) (b : Bool) → PurseLemmas.IsSound s → (task_in_figures s id).processor ≡ None
    → Tells b (length s.tasks ≤ id) (id < length s.tasks)
    → Stays s (joins id processor now s)
joined-if s id processor now b h at (inl past) =
    joined-outside s id processor (processor_joined (processor_in_figures s processor) (task_in_figures s id).weight) _ h past.1 refl refl
joined-if s id processor now b h at (inr inside) =
    joined-inside s id processor (processor_joined (processor_in_figures s processor) (task_in_figures s id).weight) _ h
    inside.1 at refl refl refl refl refl refl

-- where a task that is nowhere joins a processor, all stays sound, and each task has what it had
pub joined-stays : (s : Figures) (id processor now : ℕ) → PurseLemmas.IsSound s → (task_in_figures s id).processor ≡ None
    → Stays s (joins id processor now s)
joined-stays s id processor now h at = joined-if s id processor now (leb (length s.tasks) id) h at (leb_tells (length s.tasks) id)

-- of two purses with weights of the table, either has one
table-cond : (b : Bool) (u v : PurseLemmas.Purse) → u.weight ≤ 88761 → v.weight ≤ 88761 → (cond b u v).weight ≤ 88761
table-cond true u v h l = h
table-cond false u v h l = l

-- a task that is nowhere has another weight
admitted-inside : (s : Figures) (id : ℕ) (t' : TaskFigures) → PurseLemmas.IsSound s → id < length s.tasks
    → (task_in_figures s id).processor ≡ None → t'.processor ≡ None → t'.weight ≤ 88761 → t'.earlier_fair_time ≡ (task_in_figures s id).earlier_fair_time
    → Stays s (figures_with_task s id t')
admitted-inside s id t' h inside at now_at weight accrued =
    let s2 = figures_with_task s id t' in
    let u = PurseLemmas.purse t' in
    let is : (j : ℕ) → PurseLemmas.purse (task_in_figures s2 j) ≡ cond (eqb id j) u (PurseLemmas.purse (task_in_figures s j)) =
    λ j. task_set PurseLemmas.purse s id j t' (λ same. omega (arith, same, inside)) in
    let had : PurseLemmas.uncapped s id ≡ (task_in_figures s id).earlier_fair_time =
    ap (λ o. PurseLemmas.worth_at (PurseLemmas.shared_at s) (PurseLemmas.purse (task_in_figures s id)) o) at in
    record {
      sound = record {
        weights = λ j there.
            omega (arith, h.weights j there, weights-set s id j t' inside, weight-nowhere j t' now_at, weight-nowhere j (task_in_figures s id) at);
        joined = λ j. joined-set s s2 j u (eqb id j) (λ k. refl) (is j) (rw now_at tt) (h.joined j);
        table = λ j. omega (
          arith,
          ap (λ (v : PurseLemmas.Purse). v.weight) (is j),
          table-cond (eqb id j) u (PurseLemmas.purse (task_in_figures s j)) weight (h.table j),
        );
        ids = length-set s.tasks id t' ∙ h.ids;
      };
      uncapped_after = λ j.
          uncapped-set s s2 id j u (λ k. refl) (is j)
          (ap (λ o. PurseLemmas.worth_at (PurseLemmas.shared_at s) u o) now_at ∙ accrued ∙ sym had);
    }

-- one with an id beyond the table changes nothing
admitted-outside : (s : Figures) (id : ℕ) (t' : TaskFigures) → PurseLemmas.IsSound s → length s.tasks ≤ id → Stays s (figures_with_task s id t')
admitted-outside s id t' h past =
    let s2 = figures_with_task s id t' in
    let tasks : s2.tasks ≡ s.tasks = set_past s.tasks id t' past in
    let same : (j : ℕ) → task_in_figures s2 j ≡ task_in_figures s j = λ j. ap (λ l. get_or l j unknown) tasks in
    record {
      sound = record {
        weights = λ j there. h.weights j there ∙ ap (λ l. sum_by (weight_there j) l) (sym tasks);
        joined = λ j.
            PurseLemmas.joined-same (PurseLemmas.shared_at s) (PurseLemmas.purse (task_in_figures s2 j))
            (PurseLemmas.purse (task_in_figures s j)) (ap PurseLemmas.purse (same j)) (h.joined j);
        table = λ j. omega (arith, h.table j, ap (λ (v : TaskFigures). v.weight) (same j));
        ids = length-set s.tasks id t' ∙ h.ids;
      };
      uncapped_after = λ j. PurseLemmas.uncapped-kept s s2 j (λ k. refl) (ap PurseLemmas.purse (same j));
    }

-- a task that is nowhere is admitted, whether or not its id is in the table
admitted-if : (s : Figures) (id : ℕ) (nice : ℤ) (b : Bool) → PurseLemmas.IsSound s → (task_in_figures s id).processor ≡ None
    → Tells b (length s.tasks ≤ id) (id < length s.tasks)
    → Stays s (figures_admitted id nice s)
admitted-if s id nice b h at (inl past) = admitted-outside s id _ h past.1
admitted-if s id nice b h at (inr inside) = admitted-inside s id _ h inside.1 at at (weight_at-le nice) refl

-- where a task that is nowhere is admitted, all stays sound, and each task has what it had
pub admitted-stays : (s : Figures) (id : ℕ) (nice : ℤ) → PurseLemmas.IsSound s → (task_in_figures s id).processor ≡ None → Stays s (figures_admitted id nice s)
admitted-stays s id nice h at = admitted-if s id nice (leb (length s.tasks) id) h at (leb_tells (length s.tasks) id)
