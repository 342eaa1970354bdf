-- The weights at each processor, and what a task that leaves one keeps of its fair time.
use Rattle.std.proofs.Common.{◌≡◌, ◌≢◌, ℕ, ◌+◌, ◌-◌, ◌*◌, ◌^◌, ◌<◌, ◌≤◌, max, Bool, true, false, List, [], ◌∷◌, length, get_or, Option, Some, None, refl, ap, ◌∙◌, inl, inr, eqb, leb, cond, zero, suc, get_or-set_same, arith, eq-eqb}
use Rattle.std.specs.Prelude.{ℤ, pos, negsuc}
use Rattle.std.proofs.lemmas.Bool.Decides.{eqb_tells, leb_tells}
use Rattle.std.proofs.lemmas.List.{get_or_past, length-set}
use Rattle.std.proofs.lemmas.List.Sums.{sum_by-set, sum_by-le}
use Rattle.std.proofs.lemmas.List.Elements.{All-from_get_or}
use Rattle.bq_weights.specs.VirtualTime.{weights, weight_of}
use Rattle.bq_schedule.specs.declared.figures.TaskFigures.{TaskFigures}
use Rattle.bq_schedule.specs.declared.figures.ProcessorFigures.{ProcessorFigures}
use Rattle.bq_schedule.specs.Figures.{Figures, unknown, processor_in_figures, task_in_figures, figures_with_processor, figures_with_task}
use Rattle.bq_schedule.specs.Runnable.{fair_at, processor_left, left_from, figures_left}
use Rattle.bq_schedule.specs.Steps.{weight_or_zero}
use Rattle.bq_schedule.specs.Slices.{is_this}
use Rattle.bq_schedule.specs.FairTimes.{weight_there, weights_at}
use Rattle.bq_schedule.proofs.TestLemmas.{Tells}
use Rattle.bq_schedule.proofs.FrameLemmas.{processor_kept, task_kept, processor_set, task_set}
use Rattle.bq_schedule.proofs.PurseLemmas

-- a weight is one of the table, or none
most : List ℕ → ℕ
most [] = 0
most (x ∷ xs) = max x (most xs)

-- no number of a list is above its greatest, and the greatest weight of the table is 88761:
get_or-le-most : (xs : List ℕ) (i : ℕ) → get_or xs i 0 ≤ most xs
unfolding most
get_or-le-most [] i = omega arith
get_or-le-most (x ∷ xs) zero = omega arith
get_or-le-most (x ∷ xs) (suc i) = omega (arith, get_or-le-most xs i)

greatest : most weights ≡ 88761
unfolding most
greatest = refl

-- no weight is above that, nor is one in whose place 0 may stand:
weight_of-le : (nice : ℤ) → weight_of nice ≤ 88761
weight_of-le (pos n) = omega (arith, greatest, get_or-le-most weights (20 + n))
weight_of-le (negsuc n) = omega (arith, greatest, get_or-le-most weights (19 - n))

weight_if-le : (b : Bool) (n : ℕ) → n ≤ 88761 → cond b n 0 ≤ 88761
weight_if-le true n h = h
weight_if-le false n h = omega arith

-- no nice value has a weight above 88761
pub weight_at-le : (nice : ℤ) → weight_or_zero nice ≤ 88761
weight_at-le nice = weight_if-le _ (weight_of nice) (weight_of-le nice)

-- a task that is somewhere has an id of the table
in_table_by : (s : Figures) (id processor : ℕ) (b : Bool) → (task_in_figures s id).processor ≡ Some processor
    → Tells b (length s.tasks ≤ id) (id < length s.tasks)
    → id < length s.tasks
in_table_by s id processor b e (inl past) =
    let u : (task_in_figures s id).processor ≡ None = ap (λ (t : TaskFigures). t.processor) (get_or_past s.tasks id unknown past.1) in cc
in_table_by s id processor b e (inr inside) = inside.1

in_table : (s : Figures) (id processor : ℕ) → (task_in_figures s id).processor ≡ Some processor → id < length s.tasks
in_table s id processor e = in_table_by s id processor (leb (length s.tasks) id) e (leb_tells (length s.tasks) id)

-- one that has none has nothing
pub beyond_table : (s : Figures) (id : ℕ) → length s.tasks ≤ id → task_in_figures s id ≡ unknown
beyond_table s id past = get_or_past s.tasks id unknown past

-- the weights at a processor, where a task is set
pub weights-set : (s : Figures) (id processor : ℕ) (t : TaskFigures)
    → id < length s.tasks
    → weights_at (figures_with_task s id t) processor + weight_there processor (task_in_figures s id) ≡ weights_at s processor + weight_there processor t
weights-set s id processor t inside = sum_by-set (weight_there processor) s.tasks id t unknown inside

-- a task has its weight where it is
pub weight-here : (processor : ℕ) (t : TaskFigures) → t.processor ≡ Some processor → weight_there processor t ≡ t.weight
weight-here processor t e =
    ap (λ o. cond (is_this processor o) t.weight 0) e ∙ ap (λ b. cond b t.weight 0) (eq-eqb processor processor refl)

-- a task has no weight at a processor where it is not
pub weight-elsewhere : (processor k : ℕ) (t : TaskFigures) (b : Bool)
    → t.processor ≡ Some k → eqb k processor ≡ false → weight_there processor t ≡ 0
weight-elsewhere processor k t b e ne = ap (λ o. cond (is_this processor o) t.weight 0) e ∙ ap (λ b. cond b t.weight 0) ne

-- a task that is nowhere has no weight at any processor
pub weight-nowhere : (processor : ℕ) (t : TaskFigures) → t.processor ≡ None → weight_there processor t ≡ 0
weight-nowhere processor t e = ap (λ o. cond (is_this processor o) t.weight 0) e

-- what was given at each processor is kept where a processor is set that has given the same
pub shared-with_processor : (s : Figures) (i : ℕ) (p : ProcessorFigures) (j : ℕ)
    → p.shared ≡ PurseLemmas.shared_at s i
    → PurseLemmas.shared_at (figures_with_processor s i p) j ≡ PurseLemmas.shared_at s j
shared-with_processor s i p j e = processor_kept (λ (q : ProcessorFigures). q.shared) s i j p e

-- a task leaves its processor: it keeps what it has, and its weight goes
pub record Leaves (id : ℕ) (s s' : Figures) : Type 0 where
  pub sound : PurseLemmas.IsSound s'
  pub uncapped_after : (j : ℕ) → PurseLemmas.uncapped s' j ≡ PurseLemmas.uncapped s j
  pub nowhere : (task_in_figures s' id).processor ≡ None

-- where a task leaves a processor, the weight counted at each is again the sum of the weights there
weights-left : (s s' : Figures) (id processor j : ℕ) (b : Bool) (w : ℕ)
    → Tells b (processor ≡ j) (processor ≢ j) → eqb processor j ≡ b
    → id < length s.tasks → (task_in_figures s id).processor ≡ Some processor → (processor_in_figures s j).weight ≡ weights_at s j
    → weights_at s' j + weight_there j (task_in_figures s id) ≡ weights_at s j
    → w ≡ cond b ((processor_in_figures s processor).weight - (task_in_figures s id).weight) (processor_in_figures s j).weight
    → w ≡ weights_at s' j
weights-left s s' id processor j true w (inl e) is inside at old sums new =
    let same : (processor_in_figures s processor).weight ≡ (processor_in_figures s j).weight = ap (λ k. (processor_in_figures s k).weight) e.1 in
    let here : weight_there j (task_in_figures s id) ≡ (task_in_figures s id).weight = weight-here j (task_in_figures s id) (at ∙ ap (λ (k : ℕ). Some k) e.1) in
    omega (arith, same, here, old, sums, new)
weights-left s s' id processor j false w (inl e) is inside at old sums new = absurd (cc)
weights-left s s' id processor j true w (inr e) is inside at old sums new = absurd (cc)
weights-left s s' id processor j false w (inr e) is inside at old sums new =
    let here : weight_there j (task_in_figures s id) ≡ 0 = weight-elsewhere j processor (task_in_figures s id) false at is in
    omega (arith, here, old, sums, new)

-- the fair time of a purse where it is
abbrev pub worth : (ℕ → ℕ) → PurseLemmas.Purse → ℕ
worth f u = PurseLemmas.worth_at f u u.processor

-- what had been given when a purse came is no more than what is given where it is
abbrev pub HasJoined : (ℕ → ℕ) → PurseLemmas.Purse → Type 0
HasJoined f u = PurseLemmas.JoinedBy f u u.processor

-- of two purses that came after what was given, either did
cond-joined : (f : ℕ → ℕ) (b : Bool) (u v : PurseLemmas.Purse) → HasJoined f u → HasJoined f v → HasJoined f (cond b u v)
cond-joined f true u v h k = h
cond-joined f false u v h k = k

-- one purse is another, which came after what was given; so did the others
pub joined-set : (s s' : Figures) (j : ℕ) (u : PurseLemmas.Purse) (b : Bool)
    → ((k : ℕ) → PurseLemmas.shared_at s' k ≡ PurseLemmas.shared_at s k)
    → PurseLemmas.purse (task_in_figures s' j) ≡ cond b u (PurseLemmas.purse (task_in_figures s j)) → HasJoined (PurseLemmas.shared_at s) u
    → HasJoined (PurseLemmas.shared_at s) (PurseLemmas.purse (task_in_figures s j))
    → HasJoined (PurseLemmas.shared_at s') (PurseLemmas.purse (task_in_figures s' j))
joined-set s s' j u b gives is new old =
    PurseLemmas.joined-more (PurseLemmas.shared_at s) (PurseLemmas.shared_at s') (PurseLemmas.purse (task_in_figures s' j))
    (task_in_figures s' j).processor (λ k. omega (arith, gives k))
    (PurseLemmas.joined-same (PurseLemmas.shared_at s)
    (PurseLemmas.purse (task_in_figures s' j)) (cond b u (PurseLemmas.purse (task_in_figures s j))) is
    (cond-joined (PurseLemmas.shared_at s) b u (PurseLemmas.purse (task_in_figures s j)) new old))

-- where a purse is put for a task's own and is worth as much, each task has what it had
worth-cond : (s : Figures) (id j : ℕ) (u : PurseLemmas.Purse) (b : Bool)
    → Tells b (id ≡ j) (id ≢ j) → worth (PurseLemmas.shared_at s) u ≡ PurseLemmas.uncapped s id
    → worth (PurseLemmas.shared_at s) (cond b u (PurseLemmas.purse (task_in_figures s j))) ≡ PurseLemmas.uncapped s j
worth-cond s id j u true (inl e) same = same ∙ ap (λ k. PurseLemmas.uncapped s k) e.1
worth-cond s id j u false (inl e) same = absurd (cc)
worth-cond s id j u true (inr e) same = absurd (cc)
worth-cond s id j u false (inr e) same = refl

-- one purse is another of the same worth
pub uncapped-set : (s s' : Figures) (id j : ℕ) (u : PurseLemmas.Purse)
    → ((k : ℕ) → PurseLemmas.shared_at s' k ≡ PurseLemmas.shared_at s k)
    → PurseLemmas.purse (task_in_figures s' j) ≡ cond (eqb id j) u (PurseLemmas.purse (task_in_figures s j))
    → worth (PurseLemmas.shared_at s) u ≡ PurseLemmas.uncapped s id
    → PurseLemmas.uncapped s' j ≡ PurseLemmas.uncapped s j
uncapped-set s s' id j u gives is same =
    PurseLemmas.worth-same (PurseLemmas.shared_at s') (PurseLemmas.shared_at s) (PurseLemmas.purse (task_in_figures s' j))
    (task_in_figures s' j).processor gives
    ∙ ap (λ v. worth (PurseLemmas.shared_at s) v) is ∙ worth-cond s id j u (eqb id j) (eqb_tells id j) same

-- a task that leaves its processor, with its weight taken off there and what it has put by, keeps what it has
left-one : (s : Figures) (id processor : ℕ) (p : ProcessorFigures) (t' : TaskFigures)
    → PurseLemmas.IsSound s → (task_in_figures s id).processor ≡ Some processor → p.shared ≡ PurseLemmas.shared_at s processor
    → p.weight ≡ (processor_in_figures s processor).weight - (task_in_figures s id).weight → t'.processor ≡ None
    → t'.weight ≡ (task_in_figures s id).weight → t'.earlier_fair_time ≡ PurseLemmas.uncapped s id
    → Leaves id s (figures_with_task (figures_with_processor s processor p) id t')
left-one s id processor p t' h at shared weight nowhere same accrued =
    let s1 = figures_with_processor s processor p in
    let s2 = figures_with_task s1 id t' in
    let u = PurseLemmas.purse t' in
    let inside : id < length s.tasks = in_table s id processor at in
    let gives : (j : ℕ) → PurseLemmas.shared_at s2 j ≡ PurseLemmas.shared_at s j = λ j. shared-with_processor s processor p j shared in
    let is : (j : ℕ) → PurseLemmas.purse (task_in_figures s2 j) ≡ cond (eqb id j) u (PurseLemmas.purse (task_in_figures s j)) =
    λ j. task_set PurseLemmas.purse s1 id j t' (λ same. omega (arith, same, inside)) in
    record {
      sound = record {
        weights = λ j there.
            let there' : j < length s.processors = omega (arith, there, length-set s.processors processor p) in
            let gone : weight_there j t' ≡ 0 = weight-nowhere j t' nowhere in
            weights-left s s2 id processor j (eqb processor j) (processor_in_figures s2 j).weight (eqb_tells processor j) refl inside
            at (h.weights j there') (omega (arith, weights-set s1 id j t' inside, gone))
            (processor_set (λ (q : ProcessorFigures). q.weight) s processor j p (λ same. there')
            ∙ ap (λ w. cond (eqb processor j) w (processor_in_figures s j).weight) weight);
        joined = λ j. joined-set s s2 j u (eqb id j) gives (is j) (rw nowhere tt) (h.joined j);
        table = λ j. omega (arith, h.table j, task_kept (λ (v : TaskFigures). v.weight) s1 id j t' same);
        ids = length-set s.tasks id t' ∙ h.ids;
      };
      uncapped_after = λ j. uncapped-set s s2 id j u gives (is j) (ap (λ o. PurseLemmas.worth_at (PurseLemmas.shared_at s) u o) nowhere ∙ accrued);
      nowhere = ap (λ (v : TaskFigures). v.processor) (get_or-set_same s.tasks id t' unknown inside) ∙ nowhere;
    }

-- so does one that leaves its processor, if it has one
left-if : (s : Figures) (id : ℕ) (o : Option ℕ) → PurseLemmas.IsSound s → (task_in_figures s id).processor ≡ o
    → PurseLemmas.uncapped s id ≤ 2 ^ 128 - 1
    → Leaves id s (left_from id s o)
left-if s id None h at small = record { sound = h; uncapped_after = λ j. refl; nowhere = at }
left-if s id (Some processor) h at small =
    let t = task_in_figures s id in
    let is : PurseLemmas.uncapped s id ≡ t.earlier_fair_time + t.weight * (PurseLemmas.shared_at s processor - t.shared_at_arrival) =
    ap (λ o. PurseLemmas.worth_at (PurseLemmas.shared_at s) (PurseLemmas.purse t) o) at in
    left-one s id processor (processor_left (processor_in_figures s processor) t.weight)
    (record t { earlier_fair_time = fair_at s t (Some processor); processor = None; drains_when_placed = None }) h at refl refl refl refl
    (omega (arith, is, small))

-- a task that leaves is nowhere, all stays sound, and each has what it had, where what it has fits in 128 bits
pub leaves-stays : (s : Figures) (id : ℕ) → PurseLemmas.IsSound s
    → PurseLemmas.uncapped s id ≤ 2 ^ 128 - 1
    → Leaves id s (figures_left id s)
leaves-stays s id h small = left-if s id (task_in_figures s id).processor h refl small

-- all weights together are few
pub weights-few : (s : Figures) (processor : ℕ) → PurseLemmas.IsSound s → weights_at s processor ≤ 90891264
weights-few s processor h =
    omega (
      arith,
      h.ids,
      sum_by-le (weight_there processor) 88761 s.tasks
          (All-from_get_or (λ (t : TaskFigures). weight_there processor t ≤ 88761) s.tasks unknown
          (λ j inside. weight_if-le (is_this processor (task_in_figures s j).processor) (task_in_figures s j).weight (h.table j))),
    )
