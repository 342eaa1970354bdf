-- What a step does to the tasks that are present: those that do not leave stay, and none comes but the one that enters.
use Rattle.std.proofs.Common.{◌≡◌, ℕ, ◌^◌, ◌≤◌, Bool, true, false, cond, eqb, List, ◌∷◌, Option, Some, None, ◌⊎◌, inl, inr, refl, ap, sym, ◌∙◌, subst, arith, eqb-true, eq-eqb}
use Rattle.bq_weights.specs.VirtualTime.{IsWeight}
use Rattle.bq_disc.specs.Tasks.{Task, find_task, without, inserted, present}
use Rattle.bq_disc.specs.Queues.{HasDistinctIds}
use Rattle.bq_disc.specs.Discipline.{Discipline}
use Rattle.bq_disc.specs.OneProcessor.{Running, present_at, own_preempt}
use Rattle.bq_disc.proofs.QueueLemmas.{find_task-none, find_task-inserted_other, HasDistinctIds-inserted, find_task-without, HasDistinctIds-without, find_task-without_same, eqb_comm}
use Rattle.bq_fairness.specs.Histories.{task_at}
use Rattle.bq_fairness.specs.Steps.{ProcessorStep, Pass, Decide, Enter, Leave, Mark, stepped, kept_current, EntersNew, is_leave_of}
use Rattle.bq_fairness.proofs.PlaceLemmas.{find_task-inserted, find_task-without_other, either_order}
use Rattle.bq_fairness.proofs.DecideLemmas.{keeps_present}
use Rattle.bq_fairness.proofs.TickLemmas.{Change, charge_changed, charge_came, charged_distinct}
use Rattle.bq_fairness.proofs.SoundLemmas.{IsWellFormed, change_rises}

-- A task enters

-- as a task of a new id enters, each id stands for it or for what it stood for, and ids stay distinct
entered_stays : (o : Option Task) (q : List Task) (t : Task) (i : ℕ)
    → find_task t.id (present o q) ≡ None → find_task i (present o (inserted t q)) ≡ find_task i (t ∷ present o q)
entered_stays None q t i n = find_task-inserted i t q n
entered_stays (Some c) q t i n =
    let s = find_task-none t.id c q n in
    ap (λ x. cond (eqb c.id i) (Some c) x) (find_task-inserted i t q s.1)
    ∙ either_order (eqb c.id i) (eqb t.id i) c t (find_task i q)
    (λ a b. let e = eqb-true c.id i a ∙ sym (eqb-true t.id i b) in let f = eq-eqb c.id t.id e in cc)

entered_distinct : (o : Option Task) (q : List Task) (t : Task)
    → find_task t.id (present o q) ≡ None → HasDistinctIds (present o q)
    → HasDistinctIds (present o (inserted t q))
entered_distinct None q t n d = HasDistinctIds-inserted t q n d
entered_distinct (Some c) q t n d =
    let s = find_task-none t.id c q n in
    (find_task-inserted_other c.id t q (eqb_comm c.id t.id s.0) ∙ d.0, HasDistinctIds-inserted t q s.1 d.1)

-- a task that was there is found beside the one that enters; what is found is one that was there or the one that enters
stays_by : (i : ℕ) (t u : Task) (xs : List Task) (b : Bool) → eqb t.id i ≡ b → find_task t.id xs ≡ None → find_task i xs ≡ Some u
    → cond b (Some t) (find_task i xs) ≡ Some u
stays_by i t u xs true e n f = let k = ap (λ k. find_task k xs) (eqb-true t.id i e) in cc
stays_by i t u xs false e n f = f

comes_by : (t u : Task) (o : Option Task) (b : Bool) → cond b (Some t) o ≡ Some u → (o ≡ Some u) ⊎ (t ≡ u)
comes_by t u o true f = inr cc
comes_by t u o false f = inl f

-- A task leaves

-- ids stay distinct as a task leaves, from running or from the queue
left_distinct_by : (k : ℕ) (q : List Task) (c : Task) (b : Bool)
    → HasDistinctIds (c ∷ q) → HasDistinctIds (present (cond b None (Some c)) (without k q))
left_distinct_by k q c true d = HasDistinctIds-without k q d.1
left_distinct_by k q c false d = (find_task-without c.id k q d.0, HasDistinctIds-without k q d.1)

left_distinct : (k : ℕ) (q : List Task) (o : Option Task) → HasDistinctIds (present o q)
    → HasDistinctIds (present (kept_current k o) (without k q))
left_distinct k q None d = HasDistinctIds-without k q d
left_distinct k q (Some c) d = left_distinct_by k q c (eqb c.id k) d

-- where the current task is the one that leaves, another id does not stand for it
gone : (a b i : ℕ) (x : Option Task) (c : Task) → eqb a b ≡ true → eqb b i ≡ false → cond (eqb a i) (Some c) x ≡ x
gone a b i x c e f =
    let same = eqb-true a b e in
    let other : eqb a i ≡ false = ap (λ k. eqb k i) same ∙ f in
    rw other refl

-- as a task leaves, each other id stands for the task that it stood for
left_stays_by : (k i : ℕ) (q : List Task) (c : Task) (b : Bool)
    → eqb c.id k ≡ b → eqb k i ≡ false
    → find_task i (present (cond b None (Some c)) (without k q)) ≡ cond (eqb c.id i) (Some c) (find_task i q)
left_stays_by k i q c true e n = find_task-without_other k i q n ∙ sym (gone c.id k i (find_task i q) c e n)
left_stays_by k i q c false e n = ap (λ x. cond (eqb c.id i) (Some c) x) (find_task-without_other k i q n)

left_stays : (k i : ℕ) (q : List Task) (o : Option Task) → eqb k i ≡ false
    → find_task i (present (kept_current k o) (without k q)) ≡ find_task i (present o q)
left_stays k i q None n = find_task-without_other k i q n
left_stays k i q (Some c) n = left_stays_by k i q c (eqb c.id k) refl n

-- once a task has left, none has its id
left_none_by : (k : ℕ) (q : List Task) (c : Task) (b : Bool) → eqb c.id k ≡ b → HasDistinctIds (c ∷ q)
    → find_task k (present (cond b None (Some c)) (without k q)) ≡ None
left_none_by k q c true e d = find_task-without_same k q d.1
left_none_by k q c false e d = rw e (find_task-without_same k q d.1)

left_none : (k : ℕ) (q : List Task) (o : Option Task) → HasDistinctIds (present o q)
    → find_task k (present (kept_current k o) (without k q)) ≡ None
left_none k q None d = find_task-without_same k q d
left_none k q (Some c) d = left_none_by k q c (eqb c.id k) refl d

-- what is present once a task has left was there before
left_came_by : (k i : ℕ) (q : List Task) (o : Option Task) (u : Task) (b : Bool)
    → eqb k i ≡ b → HasDistinctIds (present o q) → find_task i (present (kept_current k o) (without k q)) ≡ Some u
    → find_task i (present o q) ≡ Some u
left_came_by k i q o u true e d f =
    let none = ap (λ n. find_task n (present (kept_current k o) (without k q))) (sym (eqb-true k i e)) ∙ left_none k q o d in
    cc
left_came_by k i q o u false e d f = sym (left_stays k i q o e) ∙ f

-- Any step

-- a step leaves the ids of the tasks that are present distinct
pub step_distinct : (d : Discipline) (p : Running) (s : ProcessorStep)
    → HasDistinctIds (present_at p) → EntersNew p s → HasDistinctIds (present_at (stepped d p s))
step_distinct d p (Pass now) h n = charged_distinct d p now h
step_distinct d p Decide h n = (keeps_present d p (own_preempt d p.queue p.current) h).distinct
step_distinct d p (Enter t) h n = entered_distinct p.current p.queue t n.id h
step_distinct d p (Leave k) h n = left_distinct k p.queue p.current h
step_distinct d p Mark h n = h

-- a task that enters, or that was there, and was charged where time passed
pub data Came (d : Discipline) (p : Running) (s : ProcessorStep) (i : ℕ) (u : Task) : Type 0 where
  Was : task_at i p ≡ Some u → Came d p s i u
  Charged : (now : ℕ) (t : Task) → s ≡ Pass now → task_at i p ≡ Some t → Change d p now i t u → Came d p s i u
  Entered : s ≡ Enter u → Came d p s i u

-- what is present once a task has entered was there before, or is the one that entered
entered_came : (d : Discipline) (p : Running) (t : Task) (i : ℕ) (u : Task) → (task_at i p ≡ Some u) ⊎ (t ≡ u) → Came d p (Enter t) i u
entered_came d p t i u (inl f) = Was f
entered_came d p t i u (inr e) = Entered (ap (λ x. Enter x) e)

-- a task that is present after a step entered by it, or was there before, and was charged where time passed
pub step_came : (d : Discipline) (p : Running) (s : ProcessorStep) (i : ℕ) (u : Task)
    → HasDistinctIds (present_at p) → EntersNew p s → task_at i (stepped d p s) ≡ Some u → Came d p s i u
step_came d p (Pass now) i u h n f = let c = charge_came d p now i u f in Charged now c.0 refl c.1 c.2
step_came d p Decide i u h n f = Was (sym ((keeps_present d p (own_preempt d p.queue p.current) h).same i) ∙ f)
step_came d p (Enter t) i u h n f =
    entered_came d p t i u (comes_by t u (task_at i p) (eqb t.id i) (sym (entered_stays p.current p.queue t i n.id) ∙ f))
step_came d p (Leave k) i u h n f = Was (left_came_by k i p.queue p.current u (eqb k i) refl h f)
step_came d p Mark i u h n f = Was f

-- how a task that does not leave changes: not, or as time passes
abbrev pub ChangesBy : Discipline → Running → ProcessorStep → ℕ → Task → Task → Type 0
ChangesBy d p (Pass now) i t u = Change d p now i t u
ChangesBy d p Decide i t u = u ≡ t
ChangesBy d p (Enter x) i t u = u ≡ t
ChangesBy d p (Leave k) i t u = u ≡ t
ChangesBy d p Mark i t u = u ≡ t

-- a task that was there is there after the step, and changed in no other way
abbrev pub StaysChanged : Discipline → Running → ProcessorStep → ℕ → Task → Option Task → Type 0
StaysChanged d p s i t o = (u : Task) × (o ≡ Some u) × ChangesBy d p s i t u

-- a task that does not leave is there after the step
pub step_goes : (d : Discipline) (p : Running) (s : ProcessorStep) (i : ℕ) (t : Task)
    → HasDistinctIds (present_at p) → EntersNew p s → is_leave_of i s ≡ false → task_at i p ≡ Some t
    → StaysChanged d p s i t (task_at i (stepped d p s))
step_goes d p (Pass now) i t h n l f = charge_changed d p now i t f
step_goes d p Decide i t h n l f = (t, (keeps_present d p (own_preempt d p.queue p.current) h).same i ∙ f, refl)
step_goes d p (Enter x) i t h n l f =
    (t, entered_stays p.current p.queue x i n.id ∙ stays_by i x t (present_at p) (eqb x.id i) refl n.id f, refl)
step_goes d p (Leave k) i t h n l f = (t, left_stays k i p.queue p.current l ∙ f, refl)
step_goes d p Mark i t h n l f = (t, f, refl)

-- each task that is present after a step has a weight in its range and a v of at most 2^62
step_ends : (d : Discipline) (p : Running) (s : ProcessorStep) (i : ℕ) (u : Task)
    → IsWellFormed p → EntersNew p s → Came d p s i u → IsWeight u.weight × (u.v ≤ 2 ^ 62)
step_ends d p s i u w n (Was f) = (w.weights i u f, w.ends i u f)
step_ends d p s i u w n (Charged now t e f c) =
    let r = change_rises d p now i t u (w.ends i t f) c in
    let v = r.v in
    (rw r.weight (w.weights i t f), omega arith)
step_ends d p s i u w n (Entered e) = let m = subst (EntersNew p) e n in (m.weight, m.ends)

-- a step keeps the processor well formed
pub well_formed_stepped : (d : Discipline) (p : Running) (s : ProcessorStep) → IsWellFormed p → EntersNew p s → IsWellFormed (stepped d p s)
well_formed_stepped d p s w n = record {
  distinct = step_distinct d p s w.distinct n;
  weights = λ i u f. (step_ends d p s i u w n (step_came d p s i u w.distinct n f)).0;
  ends = λ i u f. (step_ends d p s i u w n (step_came d p s i u w.distinct n f)).1;
}
