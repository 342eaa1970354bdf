-- Sums over the tasks that are present: where tasks change places they stay, and where one is charged its own part changes.
use Rattle.std.proofs.Common.{◌≡◌, ℕ, ◌+◌, ◌*◌, Bool, true, false, cond, List, [], ◌∷◌, length, Option, Some, None, refl, ap, sym, ◌∙◌, arith}
use Rattle.bq_disc.specs.Tasks.{Task, find_task, without, inserted, present, runs_before, id_of}
use Rattle.bq_disc.specs.Totals.{total_weight, weighted_sum}
use Rattle.bq_disc.specs.Discipline.{Discipline, charged, next_of}
use Rattle.bq_disc.specs.OneProcessor.{Running, present_at, charge, run_id, exchanged, decided, own_preempt, ticked, rise}
use Rattle.bq_disc.proofs.QueueLemmas.{without-absent}
use Rattle.bq_disc.proofs.SetLemmas.{find_task-id}
use Rattle.bq_disc.proofs.SameSumLemmas.{sum_of, sum_of-without}
use Rattle.bq_cfs.proofs.SpreadStayLemmas.{idle_processor, busy_processor}
use Rattle.bq_fairness.specs.Histories.{history}
use Rattle.bq_fairness.specs.Steps.{Decide, stepped}

-- a task that enters adds its own number to a sum
sum_of-inserted : (f : Task → ℕ) (t : Task) (xs : List Task) → sum_of f (inserted t xs) ≡ f t + sum_of f xs
sum_of-inserted f t [] = refl
sum_of-inserted f t (x ∷ xs) =
    elim (runs_before t x) as (λ b. sum_of f (cond b (t ∷ x ∷ xs) (x ∷ inserted t xs)) ≡ f t + sum_of f (x ∷ xs)) [
      | true ↦ refl
      | false ↦ omega (arith, sum_of-inserted f t xs)
    ]

-- A decision

-- a sum stays as a task of the queue starts, if there is one
sum_started : (f : Task → ℕ) (i : ℕ) (q : List Task) (o : Option Task) → find_task i q ≡ o → sum_of f (present o (without i q)) ≡ sum_of f q
sum_started f i q None e = ap (sum_of f) (without-absent i q e)
sum_started f i q (Some m) e = sym (sum_of-without f i q m e)

-- a sum stays as the current task and one of the queue change places, and as a task starts where nothing ran
sum_exchanged : (f : Task → ℕ) (q : List Task) (mark last i : ℕ) (u : Task) (o : Option Task)
    → find_task i q ≡ o
    → sum_of f (present_at (exchanged (busy_processor q mark u last) u o)) ≡ sum_of f (u ∷ q)
sum_exchanged f q mark last i u None e = refl
sum_exchanged f q mark last i u (Some m) e =
    let own : find_task m.id q ≡ Some m = ap (λ k. find_task k q) (find_task-id i q m e) ∙ e in
    omega (arith, sum_of-inserted f u (without m.id q), sum_of-without f m.id q m own)

sum_run : (f : Task → ℕ) (q : List Task) (mark last : ℕ) (i : Option ℕ)
    → sum_of f (present_at (run_id (idle_processor q mark last) i)) ≡ sum_of f q
sum_run f q mark last None = refl
sum_run f q mark last (Some i) = sum_started f i q (find_task i q) refl

-- a decision leaves each sum over those that are present
pub sum_decided : (f : Task → ℕ) (d : Discipline) (q : List Task) (mark : ℕ) (o : Option Task) (last : ℕ) (b : Bool)
    → (let p : Running = record { queue = q; mark = mark; current = o; last = last } in
    sum_of f (present_at (decided d p o b)) ≡ sum_of f (present_at p))
sum_decided f d q mark None last b = sum_run f q mark last (id_of (d.choice q))
sum_decided f d q mark (Some u) last false = refl
sum_decided f d q mark (Some u) last true = let i = next_of d u q in sum_exchanged f q mark last i u (find_task i q) refl

-- a Tick leaves each sum as the charge does
pub sum_ticked : (f : Task → ℕ) (d : Discipline) (p : Running) (now : ℕ)
    → sum_of f (present_at (ticked d p now)) ≡ sum_of f (present_at (charge d p now))
sum_ticked f d p now =
    let c = charge d p now in
    sum_decided f d c.queue c.mark c.current c.last (own_preempt d c.queue c.current)

-- A charge

-- where nothing runs a charge leaves each sum, and where a task runs its own part changes
charge_idle : (f : Task → ℕ) (d : Discipline) (q : List Task) (mark : ℕ) (o : Option Task) (last now : ℕ)
    → o ≡ None
    → (let p : Running = record { queue = q; mark = mark; current = o; last = last } in
    sum_of f (present_at (charge d p now)) ≡ sum_of f (present_at p))
charge_idle f d q mark None last now e = refl
charge_idle f d q mark (Some c) last now e = cc

charge_busy : (f : Task → ℕ) (d : Discipline) (q : List Task) (mark : ℕ) (o : Option Task) (last now : ℕ) (t : Task)
    → o ≡ Some t
    → (let p : Running = record { queue = q; mark = mark; current = o; last = last } in
    sum_of f (present_at (charge d p now)) + f t ≡ sum_of f (present_at p) + f (charged d t (rise p now)))
charge_busy f d q mark None last now t e = cc
charge_busy f d q mark (Some c) last now t e =
    let p : Running = record { queue = q; mark = mark; current = Some c; last = last } in
    let same : c ≡ t = cc in
    rw (← same) (omega arith)

-- where nothing runs a Tick leaves each sum
pub sum_idle : (f : Task → ℕ) (d : Discipline) (p : Running) (now : ℕ)
    → p.current ≡ None → sum_of f (present_at (ticked d p now)) ≡ sum_of f (present_at p)
sum_idle f d p now e = sum_ticked f d p now ∙ charge_idle f d p.queue p.mark p.current p.last now e

-- where a task runs, its own part changes as it is charged
pub sum_busy : (f : Task → ℕ) (d : Discipline) (p : Running) (now : ℕ) (t : Task)
    → p.current ≡ Some t
    → sum_of f (present_at (ticked d p now)) + f t ≡ sum_of f (present_at p) + f (charged d t (rise p now))
sum_busy f d p now t e = ap (λ n. n + f t) (sum_ticked f d p now) ∙ charge_busy f d p.queue p.mark p.current p.last now t e

-- whether a task runs or none, a Tick leaves a sum of what a charge leaves as it is
sum_stays_by : (f : Task → ℕ) (d : Discipline) (p : Running) (now : ℕ) (o : Option Task)
    → p.current ≡ o → ((t : Task) (n : ℕ) → f (charged d t n) ≡ f t)
    → sum_of f (present_at (ticked d p now)) ≡ sum_of f (present_at p)
sum_stays_by f d p now None e h = sum_idle f d p now e
sum_stays_by f d p now (Some t) e h = omega (arith, sum_busy f d p now t e, h t (rise p now))

-- a Tick leaves a sum of what a charge leaves as it is
pub sum_stays : (f : Task → ℕ) (d : Discipline) (p : Running) (now : ℕ)
    → ((t : Task) (n : ℕ) → f (charged d t n) ≡ f t)
    → sum_of f (present_at (ticked d p now)) ≡ sum_of f (present_at p)
sum_stays f d p now h = sum_stays_by f d p now p.current refl h

-- The totals as sums

-- the weights together are the sum of each weight
pub total_weight-sum : (xs : List Task) → total_weight xs ≡ sum_of (λ t. t.weight) xs
total_weight-sum [] = refl
total_weight-sum (x ∷ xs) = ap (λ n. x.weight + n) (total_weight-sum xs)

-- the weighted sum is the sum of each weight times v
pub weighted_sum-sum : (xs : List Task) → weighted_sum xs ≡ sum_of (λ t. t.weight * t.v) xs
weighted_sum-sum [] = refl
weighted_sum-sum (x ∷ xs) = ap (λ n. x.weight * x.v + n) (weighted_sum-sum xs)

-- how many tasks there are is the sum of one for each
pub length-sum : (xs : List Task) → length xs ≡ sum_of (λ t. 1) xs
length-sum [] = refl
length-sum (x ∷ xs) = omega (arith, length-sum xs)

-- a decision leaves the weights together
pub total_weight-decided : (d : Discipline) (p : Running) → total_weight (present_at (stepped d p Decide)) ≡ total_weight (present_at p)
total_weight-decided d p =
    total_weight-sum (present_at (stepped d p Decide))
    ∙ sum_decided (λ t. t.weight) d p.queue p.mark p.current p.last (own_preempt d p.queue p.current)
    ∙ sym (total_weight-sum (present_at p))

-- a decision leaves the weighted sum
pub weighted_sum-decided : (d : Discipline) (p : Running) → weighted_sum (present_at (stepped d p Decide)) ≡ weighted_sum (present_at p)
weighted_sum-decided d p =
    weighted_sum-sum (present_at (stepped d p Decide))
    ∙ sum_decided (λ t. t.weight * t.v) d p.queue p.mark p.current p.last (own_preempt d p.queue p.current)
    ∙ sym (weighted_sum-sum (present_at p))

-- a Tick leaves the weights together
pub total_weight-ticked : (d : Discipline) (p : Running) (now : ℕ)
    → total_weight (present_at (ticked d p now)) ≡ total_weight (present_at p)
total_weight-ticked d p now =
    total_weight-sum (present_at (ticked d p now))
    ∙ sum_stays (λ t. t.weight) d p now (λ t n. refl)
    ∙ sym (total_weight-sum (present_at p))

-- where a task runs, a Tick moves the weighted sum by that task's part
pub weighted_sum-busy : (d : Discipline) (p : Running) (now : ℕ) (t : Task)
    → p.current ≡ Some t
    → weighted_sum (present_at (ticked d p now)) + t.weight * t.v ≡ weighted_sum (present_at p) + t.weight * (charged d t (rise p now)).v
weighted_sum-busy d p now t e =
    omega (
      arith,
      sum_busy (λ (x : Task). x.weight * x.v) d p now t e,
      weighted_sum-sum (present_at (ticked d p now)),
      weighted_sum-sum (present_at p),
    )

-- where nothing runs a Tick leaves the weighted sum
pub weighted_sum-idle : (d : Discipline) (p : Running) (now : ℕ)
    → p.current ≡ None → weighted_sum (present_at (ticked d p now)) ≡ weighted_sum (present_at p)
weighted_sum-idle d p now e =
    weighted_sum-sum (present_at (ticked d p now)) ∙ sum_idle (λ (x : Task). x.weight * x.v) d p now e
    ∙ sym (weighted_sum-sum (present_at p))

-- a Tick leaves how many are present
length-ticked : (d : Discipline) (p : Running) (now : ℕ) → length (present_at (ticked d p now)) ≡ length (present_at p)
length-ticked d p now =
    length-sum (present_at (ticked d p now)) ∙ sum_stays (λ t. 1) d p now (λ t n. refl) ∙ sym (length-sum (present_at p))

-- any number of Ticks leave how many are present
pub length-history : (d : Discipline) (p : Running) (nows : List ℕ) → length (present_at (history d p nows)) ≡ length (present_at p)
length-history d p [] = refl
length-history d p (now ∷ nows) = length-history d (ticked d p now) nows ∙ length-ticked d p now
