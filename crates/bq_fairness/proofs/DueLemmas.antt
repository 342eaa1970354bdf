-- EEVDF: the task that runs stands at no later virtual time than any is due, so none comes far beyond a deadline.
use Rattle.std.proofs.Common.{◌≡◌, ℕ, ◌+◌, ◌*◌, ◌^◌, ◌<◌, ◌≤◌, max, min, Bool, true, false, cond, nat_le, List, [], ◌∷◌, Some, refl, sym, ◌∙◌, arith}
use Rattle.std.specs.Prelude.{All}
use Rattle.std.proofs.lemmas.Bool.Decides.{nat_tests}
use Rattle.std.proofs.Math.Nat.{mul-le-mul_left}
use Rattle.bq_weights.specs.VirtualTime.{vdelta_of, advance_of}
use Rattle.bq_disc.specs.Tasks.{Task, find_task}
use Rattle.bq_disc.specs.Dues.{due_before}
use Rattle.bq_disc.specs.Totals.{total_weight, weighted_sum}
use Rattle.bq_disc.specs.Queues.{HasDistinctIds}
use Rattle.bq_disc.specs.Discipline.{charged}
use Rattle.bq_disc.specs.OneProcessor.{Running, present_at, charge, ticked, rise}
use Rattle.bq_disc.proofs.SetLemmas.{Contains-find_task}
use Rattle.bq_disc.proofs.SameSumLemmas.{filter-Contains}
use Rattle.bq_eevdf.specs.Eevdf.{eevdf, is_eligible, earliest}
use Rattle.bq_fairness.specs.Histories.{history, TicksRiseByAtMost, task_at}
use Rattle.bq_fairness.specs.EevdfDeadlines.{HasDeadlines, NoneIsBeyondADeadline}
use Rattle.bq_fairness.proofs.PlaceLemmas.{current_present}
use Rattle.bq_fairness.proofs.TickLemmas.{Change, Stays, Runs, tick_came, tick_keeps, charged_distinct}
use Rattle.bq_fairness.proofs.SoundLemmas.{of_each, vdelta_of-le, IsWellFormed, well_formed, change_rises, well_formed_ticked, well_formed_history}
use Rattle.bq_fairness.proofs.ListLemmas.{All-from_ids, of_some}
use Rattle.bq_fairness.proofs.EligibleLemmas.{runs_earliest, earliest_is_eligible, none_is_due_before}

-- a task is due no earlier than it stands, and no later than one slice from there
pub record IsDue (t : Task) : Type 0 where
  pub low : t.v ≤ t.deadline
  pub high : t.deadline ≤ t.v + vdelta_of t.slice t.weight

-- each task that is present is due no earlier than it stands, and no later than one slice from there
abbrev pub EachIsDue : Running → Type 0
EachIsDue p = (i : ℕ) (t : Task) → task_at i p ≡ Some t → IsDue t

-- a task stays so, and its deadline does not fall
record Dues (t u : Task) : Type 0 where
  due : IsDue u
  up : t.deadline ≤ u.deadline

-- a new deadline is no earlier than v and than the old one, and at most one slice from v, renewed or not
renewed_by_test : (x v slice weight deadline : ℕ) (b : Bool) → nat_le deadline v ≡ b → x ≤ deadline
    → deadline ≤ x + vdelta_of slice weight → x ≤ v → v ≤ 2 ^ 62
    → (let new = cond b (advance_of v slice weight) deadline in (v ≤ new) × (new ≤ v + vdelta_of slice weight) × (deadline ≤ new))
renewed_by_test x v slice weight deadline true e low high up ends =
    let le : deadline ≤ v = grind (arith, nat_tests) in
    (omega arith, omega arith, omega arith)
renewed_by_test x v slice weight deadline false e low high up ends =
    let lt : v < deadline = grind (arith, nat_tests) in
    (omega arith, omega arith, omega arith)

-- as time is charged
charged_dues : (t : Task) (x : ℕ) → t.v ≤ 2 ^ 62 → IsDue t → Dues t (charged eevdf t x)
charged_dues t x ends h =
    let v = min (t.v + vdelta_of x t.weight) (2 ^ 62) in
    let low = h.low in
    let high = h.high in
    let r = renewed_by_test t.v v t.slice t.weight t.deadline (nat_le t.deadline v) refl low high (omega arith) (omega arith) in
    record { due = record { low = r.0; high = r.1 }; up = r.2 }

-- a task that is charged is still due no earlier than it stands, and no later than one slice from there
pub charged_due : (t : Task) (x : ℕ) → t.v ≤ 2 ^ 62 → IsDue t → IsDue (charged eevdf t x)
charged_due t x ends h = (charged_dues t x ends h).due

-- the deadline of a task does not fall as it is charged
pub charged_later : (t : Task) (x : ℕ) → t.v ≤ 2 ^ 62 → IsDue t → t.deadline ≤ (charged eevdf t x).deadline
charged_later t x ends h = (charged_dues t x ends h).up

-- as a task stays or runs at a Tick, it stays so, and its deadline does not fall
dues : (p : Running) (now i : ℕ) (t u : Task) → t.v ≤ 2 ^ 62 → IsDue t → Change eevdf p now i t u → Dues t u
dues p now i t u ends h (Stays e z) = rw e (record { due = h; up = omega arith })
dues p now i t u ends h (Runs c e z) = rw e (charged_dues t (rise p now) ends h)

-- The task that runs

-- a number that is at most the mean is at most one that is above it
lighter_by : (W M x y : ℕ) (b : Bool) → nat_le y x ≡ b → W * x ≤ M → M < W * y → x ≤ y
lighter_by W M x y true e h k =
    let le : y ≤ x = grind (arith, nat_tests) in
    absurd (omega (arith, mul-le-mul_left W le))
lighter_by W M x y false e h k = grind (arith, nat_tests)

lighter : (W M x y : ℕ) → W * x ≤ M → M < W * y → x ≤ y
lighter W M x y h k = lighter_by W M x y (nat_le y x) refl h k

-- it stands no later than one is due, be that one eligible or not
before_due_by : (xs : List Task) (m t : Task) (b : Bool) → is_eligible xs t ≡ b → is_eligible xs m ≡ true
    → (b ≡ true → due_before t m ≡ false) → IsDue m → IsDue t
    → m.v ≤ t.deadline
before_due_by xs m t true e c first dm dt =
    let f = first refl in
    let low = dm.low in
    let order : m.deadline ≤ t.deadline = grind (arith, nat_tests) in
    omega arith
before_due_by xs m t false e c first dm dt =
    let W = total_weight xs in
    let M = weighted_sum xs in
    let one : W * m.v ≤ M = grind (arith, nat_tests) in
    let two : M < W * t.v = grind (arith, nat_tests) in
    let le = lighter W M m.v t.v one two in
    let low = dt.low in
    omega arith

-- the eligible task that is due first stands no later than any is due
pub before_due : (xs : List Task) (m t : Task) (j : ℕ) → HasDistinctIds xs → earliest xs ≡ Some m
    → find_task j xs ≡ Some t → IsDue m → IsDue t
    → m.v ≤ t.deadline
before_due xs m t j d e f dm dt =
    let c = Contains-find_task j xs t f in
    before_due_by xs m t (is_eligible xs t) refl (earliest_is_eligible xs m d e)
    (λ k. none_is_due_before xs m e t (filter-Contains (is_eligible xs) xs t c.0 c.1 c.2 k)) dm dt

-- after a Tick
runs_before_due : (p : Running) (now j : ℕ) (m t : Task) → HasDistinctIds (present_at p) → EachIsDue (ticked eevdf p now)
    → (ticked eevdf p now).current ≡ Some m → task_at j (ticked eevdf p now) ≡ Some t
    → m.v ≤ t.deadline
runs_before_due p now j m t d due e f =
    let c = charge eevdf p now in
    let q = ticked eevdf p now in
    let dc = charged_distinct eevdf p now d in
    let first = of_some (λ x. earliest (present_at c) ≡ Some x) q.current m (runs_earliest c dc) e in
    let there = sym ((tick_keeps eevdf p now d).same j) ∙ f in
    before_due (present_at c) m t j dc first there (due m.id m (current_present q.queue q.mark q.current q.last m e)) (due j t f)

-- How far one gets beyond another's deadline

-- each has a deadline; no task that runs is further than the start or another's deadline, and none by more than one charge
pub record IsTimely (V r : ℕ) (p : Running) : Type 0 where
  pub due : EachIsDue p
  pub runs : (j : ℕ) (m t : Task) → p.current ≡ Some m → task_at j p ≡ Some t → m.v ≤ max V t.deadline
  pub each : (i j : ℕ) (u t : Task) → task_at i p ≡ Some u → task_at j p ≡ Some t → u.v ≤ max V t.deadline + vdelta_of r u.weight

-- a task that stays or runs is beyond V or another's deadline by no more than one rise
one_beyond_by : (V r : ℕ) (p : Running) (now i j : ℕ) (t u b : Task)
    → IsWellFormed p → IsTimely V r p → rise p now ≤ r → task_at i p ≡ Some t → task_at j p ≡ Some b
    → Change eevdf p now i t u
    → u.v ≤ max V b.deadline + vdelta_of r u.weight
one_beyond_by V r p now i j t u b w timely le f g (Stays e z) = rw e (timely.each i j t b f g)
one_beyond_by V r p now i j t u b w timely le f g (Runs c e z) =
    let ch : Change eevdf p now i t u = Runs c e z in
    let rs = change_rises eevdf p now i t u (w.ends i t f) ch in
    let v = rs.v in
    let most = rs.most in
    let mono = vdelta_of-le (rise p now) r t.weight (w.weights i t f).0 le in
    let start = timely.runs j t b c g in
    let bound : u.v ≤ max V b.deadline + vdelta_of r t.weight = omega arith in
    rw rs.weight bound

-- a Tick keeps each task due so, and if the clock rises by at most r, as near the deadlines
due_ticked : (p : Running) (now : ℕ) → IsWellFormed p → EachIsDue p → EachIsDue (ticked eevdf p now)
due_ticked p now w due i u f =
    let b = tick_came eevdf p now i u w.distinct f in
    (dues p now i b.0 u (w.ends i b.0 b.1) (due i b.0 b.1) b.2).due

timely_ticked : (V r : ℕ) (p : Running) (now : ℕ) → IsWellFormed p → IsTimely V r p → rise p now ≤ r → IsTimely V r (ticked eevdf p now)
timely_ticked V r p now w timely le =
    let due = due_ticked p now w timely.due in
    record {
      due = due;
      runs = λ j m t e f. let before = runs_before_due p now j m t w.distinct due e f in omega arith;
      each = λ i j u t f g.
          let a = tick_came eevdf p now i u w.distinct f in
          let b = tick_came eevdf p now j t w.distinct g in
          let one = one_beyond_by V r p now i j a.0 u b.0 w timely le a.1 b.1 a.2 in
          let up = (dues p now j b.0 t (w.ends j b.0 b.1) (timely.due j b.0 b.1) b.2).up in
          omega arith;
    }

-- any number of Ticks at which the clock rises by at most r keep each task as near the deadlines
pub timely_history : (V r : ℕ) (p : Running) (nows : List ℕ) → IsWellFormed p → IsTimely V r p → TicksRiseByAtMost r eevdf p nows
    → IsTimely V r (history eevdf p nows)
timely_history V r p [] w timely le = timely
timely_history V r p (now ∷ nows) w timely le =
    timely_history V r (ticked eevdf p now) nows (well_formed_ticked eevdf p now w) (timely_ticked V r p now w timely le.0) le.1

-- where no v is beyond V at the start, none is beyond V or a deadline by more than one rise
pub timely_at_start : (V r : ℕ) (p : Running) → HasDeadlines p → All (λ t. t.v ≤ V) (present_at p) → IsTimely V r p
timely_at_start V r p due h =
    let two : Task → Type 0 = λ x. (x.v ≤ x.deadline) × (x.deadline ≤ x.v + vdelta_of x.slice x.weight) in
    record {
      due = λ i t f. let d = of_each two p i t due f in record { low = d.0; high = d.1 };
      runs = λ j m t e f.
          let le = of_each (λ (x : Task). x.v ≤ V) p m.id m h (current_present p.queue p.mark p.current p.last m e) in
          omega arith;
      each = λ i j u t f g. let le = of_each (λ (x : Task). x.v ≤ V) p i u h f in omega arith;
    }

-- where no v is beyond V at the start, none is ever beyond V or another's deadline by more than one rise
pub none_is_beyond_a_deadline : NoneIsBeyondADeadline
none_is_beyond_a_deadline V r p nows s due h le =
    let w = well_formed p s in
    let q = history eevdf p nows in
    let end = timely_history V r p nows w (timely_at_start V r p due h) le in
    let two : Task → Type 0 = λ x. (x.v ≤ x.deadline) × (x.deadline ≤ x.v + vdelta_of x.slice x.weight) in (
      All-from_ids two (present_at q) (well_formed_history eevdf p nows w).distinct (λ i t f. let d = end.due i t f in (d.low, d.high)),
      end.each,
    )
