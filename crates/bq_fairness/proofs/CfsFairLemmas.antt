-- CFS: the task that runs is near each, so no task gets far beyond another.
use Rattle.std.proofs.Common.{◌≡◌, ℕ, ◌+◌, ◌<◌, ◌≤◌, max, Bool, true, false, List, [], ◌∷◌, Option, Some, None, refl, sym, ◌∙◌, arith}
use Rattle.std.specs.Prelude.{All, IfSome}
use Rattle.std.specs.List.{AllByRecursion}
use Rattle.std.proofs.lemmas.Bool.Decides.{nat_tests}
use Rattle.bq_weights.specs.VirtualTime.{vdelta_of}
use Rattle.bq_disc.specs.Tasks.{Task, find_task, runs_before, former}
use Rattle.bq_disc.specs.Queues.{HasDistinctIds}
use Rattle.bq_disc.specs.Discipline.{next_of}
use Rattle.bq_disc.specs.OneProcessor.{Running, present_at, charge, decided, own_preempt, exchanged, ticked, rise}
use Rattle.bq_cfs.specs.Cfs.{cfs, least}
use Rattle.bq_cfs.proofs.BoundLemmas.{weaker_of_each, none_below_least}
use Rattle.bq_cfs.proofs.MoveLemmas.{each-find_task}
use Rattle.bq_cfs.proofs.SpreadStayLemmas.{least_is_found, idle_processor, busy_processor, near_each, next_is_least}
use Rattle.bq_fairness.specs.Histories.{history, TicksRiseByAtMost, task_at}
use Rattle.bq_fairness.proofs.PlaceLemmas.{current_present}
use Rattle.bq_fairness.proofs.TickLemmas.{Change, Stays, Runs, tick_came, tick_keeps, charged_distinct}
use Rattle.bq_fairness.proofs.SoundLemmas.{of_each, vdelta_of-le, IsWellFormed, change_rises, well_formed_ticked}

-- Who runs after a decision

-- a task is at most 1,000,000 beyond each of some
abbrev pub IsNearEach : List Task → Task → Type 0
IsNearEach xs m = AllByRecursion (λ t. m.v ≤ t.v + 1000000) xs

-- where nothing ran, the task that starts is at most 1,000,000 beyond each of the queue
started_near : (q : List Task) (mark last : ℕ) → HasDistinctIds q
    → IfSome (decided cfs (idle_processor q mark last) None false).current (IsNearEach q)
started_near [] mark last d = tt
started_near (x ∷ xs) mark last d =
    let m = former runs_before x (least xs) in
    rw (least_is_found x xs d)
    (weaker_of_each (λ (t : Task). m.v ≤ t.v) (λ (t : Task). m.v ≤ t.v + 1000000) (λ t k. omega arith) (x ∷ xs) (none_below_least x xs))

-- where a task gives way, the one that then runs is so of all that were present, by cases: to one that is so, by the discipline
exchanged_near : (q : List Task) (mark last next : ℕ) (u m : Task)
    → next ≡ m.id → find_task m.id q ≡ Some m → IsNearEach (u ∷ q) m
    → IfSome (exchanged (busy_processor q mark u last) u (find_task next q)).current (IsNearEach (u ∷ q))
exchanged_near q mark last next u m e f h = rw (e, f) h

switched_near : (q : List Task) (mark last : ℕ) (u : Task) → HasDistinctIds (u ∷ q) → own_preempt cfs q (Some u) ≡ true
    → IfSome (decided cfs (busy_processor q mark u last) (Some u) true).current (IsNearEach (u ∷ q))
switched_near [] mark last u d e = cc
switched_near (x ∷ xs) mark last u d e =
    let m = former runs_before x (least xs) in
    let lt : m.v + 1000000 < u.v = grind (arith, nat_tests) in
    let near =
    weaker_of_each (λ (t : Task). m.v ≤ t.v) (λ (t : Task). m.v ≤ t.v + 1000000) (λ t k. omega arith) (x ∷ xs)
    (none_below_least x xs) in
    exchanged_near (x ∷ xs) mark last (next_of cfs u (x ∷ xs)) u m (next_is_least u x xs (omega arith))
    (least_is_found x xs d.1) (omega arith, near)

-- where a task ran, the one that runs after the discipline decides is so; and where a task ran or none
decided_near : (q : List Task) (mark last : ℕ) (u : Task) (b : Bool)
    → HasDistinctIds (u ∷ q) → own_preempt cfs q (Some u) ≡ b
    → IfSome (decided cfs (busy_processor q mark u last) (Some u) b).current (IsNearEach (u ∷ q))
decided_near q mark last u true d e = switched_near q mark last u d e
decided_near q mark last u false d e = (omega arith, near_each u.v q e)

runs_near_by : (q : List Task) (mark : ℕ) (o : Option Task) (last : ℕ)
    → (let p : Running = record { queue = q; mark = mark; current = o; last = last } in
    HasDistinctIds (present_at p) → IfSome (decided cfs p o (own_preempt cfs q o)).current (IsNearEach (present_at p)))
runs_near_by q mark None last d = started_near q mark last d
runs_near_by q mark (Some u) last d = decided_near q mark last u (own_preempt cfs q (Some u)) d refl

-- the task that runs after a decision is so of all that are present
pub runs_near_each : (p : Running) → HasDistinctIds (present_at p)
    → IfSome (decided cfs p p.current (own_preempt cfs p.queue p.current)).current (IsNearEach (present_at p))
runs_near_each p d = runs_near_by p.queue p.mark p.current p.last d

-- the task that runs after a Tick is at most 1,000,000 beyond each that is present
pub runs_near : (p : Running) (now j : ℕ) (m t : Task) → HasDistinctIds (present_at p) → (ticked cfs p now).current ≡ Some m
    → task_at j (ticked cfs p now) ≡ Some t
    → m.v ≤ t.v + 1000000
runs_near p now j m t d e f =
    let c = charge cfs p now in
    let near = runs_near_by c.queue c.mark c.current c.last (charged_distinct cfs p now d) in
    let each = rw e at near in
    let there = sym ((tick_keeps cfs p now d).same j) ∙ f in
    rw there at (each-find_task (λ (x : Task). m.v ≤ x.v + 1000000) j (present_at c) each)

-- How far one gets beyond another

-- the task that runs is at most V, or 1,000,000 beyond each, and no task is further beyond by more than one rise at its own weight
pub record IsFair (V r : ℕ) (p : Running) : Type 0 where
  pub runs : (j : ℕ) (m t : Task) → p.current ≡ Some m → task_at j p ≡ Some t → m.v ≤ max V (t.v + 1000000)
  pub each : (i j : ℕ) (u t : Task) → task_at i p ≡ Some u → task_at j p ≡ Some t → u.v ≤ max V (t.v + 1000000) + vdelta_of r u.weight

-- a task that stays or runs, beside another that does
one_beyond_by : (V r : ℕ) (p : Running) (now i j : ℕ) (t u b : Task)
    → IsWellFormed p → IsFair V r p → rise p now ≤ r → task_at i p ≡ Some t → task_at j p ≡ Some b → Change cfs p now i t u
    → u.v ≤ max V (b.v + 1000000) + vdelta_of r u.weight
one_beyond_by V r p now i j t u b w fair le f g (Stays e z) = rw e (fair.each i j t b f g)
one_beyond_by V r p now i j t u b w fair le f g (Runs c e z) =
    let ch : Change cfs p now i t u = Runs c e z in
    let rs = change_rises cfs p now i t u (w.ends i t f) ch in
    let v = rs.v in
    let most = rs.most in
    let mono = vdelta_of-le (rise p now) r t.weight (w.weights i t f).0 le in
    let start = fair.runs j t b c g in
    let bound : u.v ≤ max V (b.v + 1000000) + vdelta_of r t.weight = omega arith in
    rw rs.weight bound

-- a Tick at which the clock rises by at most r keeps each task as near the others
fair_ticked : (V r : ℕ) (p : Running) (now : ℕ) → IsWellFormed p → IsFair V r p → rise p now ≤ r → IsFair V r (ticked cfs p now)
fair_ticked V r p now w fair le = record {
  runs = λ j m t e f. let near = runs_near p now j m t w.distinct e f in omega arith;
  each = λ i j u t f g.
      let a = tick_came cfs p now i u w.distinct f in
      let b = tick_came cfs p now j t w.distinct g in
      let one = one_beyond_by V r p now i j a.0 u b.0 w fair le a.1 b.1 a.2 in
      let rs = change_rises cfs p now j b.0 t (w.ends j b.0 b.1) b.2 in
      let v = rs.v in
      let ends = w.ends j b.0 b.1 in
      omega arith;
}

-- any number of Ticks at which the clock rises by at most r keep each task as near the others
pub fair_history : (V r : ℕ) (p : Running) (nows : List ℕ) → IsWellFormed p → IsFair V r p → TicksRiseByAtMost r cfs p nows
    → IsFair V r (history cfs p nows)
fair_history V r p [] w fair le = fair
fair_history V r p (now ∷ nows) w fair le =
    fair_history V r (ticked cfs p now) nows (well_formed_ticked cfs p now w) (fair_ticked V r p now w fair le.0) le.1

-- where no v is beyond V
pub fair_at_start : (V r : ℕ) (p : Running) → All (λ t. t.v ≤ V) (present_at p) → IsFair V r p
fair_at_start V r p h = record {
  runs = λ j m t e f.
      let le = of_each (λ (x : Task). x.v ≤ V) p m.id m h (current_present p.queue p.mark p.current p.last m e) in
      omega arith;
  each = λ i j u t f g. let le = of_each (λ (x : Task). x.v ≤ V) p i u h f in omega arith;
}
