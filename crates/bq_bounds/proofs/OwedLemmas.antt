-- EEVDF: while none comes and none goes, no task is owed more than its bound.
use Rattle.std.proofs.Common.{◌≡◌, ℕ, ◌+◌, ◌-◌, ◌*◌, ◌/◌, ◌≤◌, Bool, true, false, leb, List, [], ◌∷◌, length, Option, Some, None, refl, ap, sym, ◌∙◌, arith}
use Rattle.std.specs.List.{AllByRecursion}
use Rattle.std.proofs.lemmas.Bool.Decides.{nat_tests}
use Rattle.std.proofs.lemmas.List.Elements.{All-from_recursion}
use Rattle.std.proofs.lemmas.Nat.{le-div}
use Rattle.std.proofs.Math.Nat.{div-mul-le_self, mul-le-mul_left}
use Rattle.std.proofs.lemmas.Option.{same_Some}
use Rattle.bq_weights.specs.VirtualTime.{vdelta_of}
use Rattle.bq_disc.specs.Tasks.{Task, find_task, without}
use Rattle.bq_disc.specs.Totals.{total_weight, weighted_sum}
use Rattle.bq_disc.specs.Discipline.{charged}
use Rattle.bq_disc.specs.OneProcessor.{Running, present_at, reading, charge, own_preempt, ticked, rise}
use Rattle.bq_eevdf.specs.Eevdf.{eevdf}
use Rattle.bq_fairness.specs.Histories.{task_at}
use Rattle.bq_fairness.specs.Work.{weight_present, weighted_v_at}
use Rattle.bq_fairness.specs.EevdfFairness.{most_ahead, IsBalanced}
use Rattle.bq_fairness.specs.Steps.{ProcessorStep, Pass, Decide, Enter, Leave, Mark, stepped, after_steps, DecidesWithin}
use Rattle.bq_fairness.proofs.TickLemmas.{Change, Stays, Runs, charge_came}
use Rattle.bq_fairness.proofs.SoundLemmas.{of_each, vdelta_of-le, IsWellFormed, well_formed, vdelta_of-add}
use Rattle.bq_fairness.proofs.SumLemmas.{total_weight-decided, weighted_sum-decided, total_weight-ticked, weighted_sum-busy}
use Rattle.bq_fairness.proofs.ListLemmas.{All-from_ids, of_some, weights_split}
use Rattle.bq_fairness.proofs.PlaceLemmas.{current_present}
use Rattle.bq_fairness.proofs.DecideLemmas.{keeps_present}
use Rattle.bq_fairness.proofs.StepLemmas.{well_formed_stepped}
use Rattle.bq_fairness.proofs.EligibleLemmas.{IsEarliestOf, runs_earliest, earliest_is_eligible}
use Rattle.bq_fairness.proofs.BalanceLemmas.{well_formed_is_sound, moment_up}
use Rattle.bq_fairness.proofs.OwedLemmas.{none_is_owed_long}
use Rattle.bq_bounds.specs.Lags.{mean_at, furthest, owed, owed_at_most}
use Rattle.bq_bounds.specs.Owing.{KeepsAll, EevdfOwesWithin}
use Rattle.bq_bounds.proofs.NearnessLemmas.{eligible_at_most_mean, at_most_of_same}

-- The clock has risen by s since the last decision: the task that runs is ahead by no more than E and what s takes at its weight,
-- and each task by no more than E and what r takes
record IsLevel (E r s : ℕ) (p : Running) : Type 0 where
  pub runs : (t : Task) → p.current ≡ Some t → weight_present p * t.v ≤ weighted_v_at p + most_ahead E s (weight_present p) t.weight
  pub each : (i : ℕ) (t : Task) → task_at i p ≡ Some t → weight_present p * t.v ≤ weighted_v_at p + most_ahead E r (weight_present p) t.weight

-- Time passes

-- a charge leaves the weight of all tasks together
weight_charged : (p : Running) (now : ℕ) → weight_present (charge eevdf p now) ≡ weight_present p
weight_charged p now = sym (total_weight-decided eevdf (charge eevdf p now)) ∙ total_weight-ticked eevdf p now

-- a decision after a charge leaves the weighted sum as it is
moment_charged : (p : Running) (now : ℕ) → weighted_v_at (ticked eevdf p now) ≡ weighted_v_at (charge eevdf p now)
moment_charged p now = weighted_sum-decided eevdf (charge eevdf p now)

-- in numbers: a task that moves on, by no more than a rise takes, is ahead by no more than the longer rise takes
further : (W w o M N E x y g s most both : ℕ) → W ≡ w + o → y ≡ x + g → g ≤ most → s + most ≤ both
    → W * x ≤ M + (E + o * s) → N + w * x ≡ M + w * y
    → W * y ≤ N + (E + o * both)
further W w o M N E x y g s most both split up le sum start moves =
    let a = ap (λ n. W * n) up in
    let b = ap (λ n. w * n) up in
    let c = ap (λ n. n * g) split in
    let e = mul-le-mul_left o le in
    let f = mul-le-mul_left o sum in
    omega arith

-- the task that runs
ran_further : (E r s : ℕ) (p : Running) (now : ℕ) (t : Task) → IsWellFormed p → IsLevel E r s p → p.current ≡ Some t
    → (let u = charged eevdf t (rise p now) in
    weight_present p * u.v ≤ weighted_v_at (charge eevdf p now) + most_ahead E (s + rise p now) (weight_present p) t.weight)
ran_further E r s p now t w l c =
    let f = current_present p.queue p.mark p.current p.last t c in
    let ends = w.ends t.id t f in
    let u = charged eevdf t (rise p now) in
    let rest = total_weight (without t.id (present_at p)) in
    let split = weights_split t.id (present_at p) t f in
    let less : weight_present p - t.weight ≡ rest = omega arith in
    let up : u.v ≡ t.v + (u.v - t.v) = omega arith in
    let few : u.v - t.v ≤ vdelta_of (rise p now) t.weight = omega arith in
    let add = vdelta_of-add s (rise p now) t.weight (w.weights t.id t f).0 in
    let moves = weighted_sum-busy eevdf p now t c in
    let sum : weighted_v_at (charge eevdf p now) + t.weight * t.v ≡ weighted_v_at p + t.weight * u.v =
    omega (arith, moment_charged p now) in
    let start : weight_present p * t.v ≤ weighted_v_at p + (E + rest * vdelta_of s t.weight) = rw (← less) (l.runs t c) in
    let law =
    further (weight_present p) t.weight rest (weighted_v_at p) (weighted_v_at (charge eevdf p now)) E t.v u.v (u.v - t.v)
    (vdelta_of s t.weight) (vdelta_of (rise p now) t.weight) (vdelta_of (s + rise p now) t.weight) split up
    few add start sum in
    rw less law

-- after a reading each task is ahead by no more than E and what r takes at its weight
ahead_by : (E r s : ℕ) (p : Running) (now i : ℕ) (t u : Task)
    → IsWellFormed p → IsLevel E r s p → s + rise p now ≤ r → task_at i p ≡ Some t → Change eevdf p now i t u
    → weight_present p * u.v ≤ weighted_v_at (charge eevdf p now) + most_ahead E r (weight_present p) u.weight
ahead_by E r s p now i t u w l le f (Stays e z) =
    let h = l.each i t f in
    let up = moment_up eevdf p now w in
    rw e (omega (arith, moment_charged p now))
ahead_by E r s p now i t u w l le f (Runs c e z) =
    let h = ran_further E r s p now t w l c in
    let more = mul-le-mul_left (weight_present p - t.weight) (vdelta_of-le (s + rise p now) r t.weight (w.weights i t f).0 le) in
    rw e (omega arith)

-- the task that runs after a charge is the one that ran, charged for the rise:
charged_runs_by : (q : List Task) (mark : ℕ) (o : Option Task) (last now : ℕ) (u : Task)
    → (let p : Running = record { queue = q; mark = mark; current = o; last = last } in
    (charge eevdf p now).current ≡ Some u → (t : Task) × (o ≡ Some t) × (u ≡ charged eevdf t (rise p now)))
charged_runs_by q mark None last now u e = cc
charged_runs_by q mark (Some t) last now u e = (t, refl, sym (same_Some (charged eevdf t (reading last now - last)) u e))

charged_runs : (p : Running) (now : ℕ) (u : Task) → (charge eevdf p now).current ≡ Some u
    → (t : Task) × (p.current ≡ Some t) × (u ≡ charged eevdf t (rise p now))
charged_runs p now u e = charged_runs_by p.queue p.mark p.current p.last now u e

-- a reading leaves a processor level, with its rise added to that since the last decision
pass : (E r s : ℕ) (p : Running) (now : ℕ) → IsWellFormed p → IsLevel E r s p → s + rise p now ≤ r
    → IsLevel E r (s + rise p now) (charge eevdf p now)
pass E r s p now w l le = record {
  runs = λ u e.
      let b = charged_runs p now u e in
      let h = ran_further E r s p now b.0 w l b.1 in
      rw (weight_charged p now, b.2) h;
  each = λ i u f.
      let b = charge_came eevdf p now i u f in
      let h = ahead_by E r s p now i b.0 u w l le b.1 b.2 in
      rw (weight_charged p now) h;
}

-- The discipline decides

-- a decision leaves a processor level, with no rise since
decide : (E r s : ℕ) (p : Running) → IsWellFormed p → IsLevel E r s p → IsLevel E r 0 (stepped eevdf p Decide)
decide E r s p w l =
    let q = stepped eevdf p Decide in
    record {
      runs = λ t e.
          let first = of_some (IsEarliestOf (present_at p)) q.current t (runs_earliest p w.distinct) e in
          let eligible = eligible_at_most_mean (present_at p) t (earliest_is_eligible (present_at p) t w.distinct first) in
          let kept =
          at_most_of_same (weight_present p) (weight_present q) (weighted_v_at p) (weighted_v_at q) t.v (total_weight-decided eevdf p)
          (weighted_sum-decided eevdf p) eligible in
          omega arith;
      each = λ i u f.
          let h = l.each i u (sym ((keeps_present eevdf p (own_preempt eevdf p.queue p.current) w.distinct).same i) ∙ f) in
          rw (total_weight-decided eevdf p, weighted_sum-decided eevdf p) h;
    }

-- Any steps

-- what they leave
record Left (E r : ℕ) (p q : Running) : Type 0 where
  pub formed : IsWellFormed q
  pub weight : weight_present q ≡ weight_present p
  pub each : (i : ℕ) (t : Task) → task_at i q ≡ Some t → weight_present q * t.v ≤ weighted_v_at q + most_ahead E r (weight_present q) t.weight

-- what steps leave of a processor, they leave of an earlier one of the same weight
via : (E r : ℕ) (p m q : Running) → weight_present m ≡ weight_present p → Left E r m q → Left E r p q
via E r p m q e l = record { formed = l.formed; weight = l.weight ∙ e; each = l.each }

-- steps in which none comes or goes, and that decide in time, leave each task no further ahead than E and what r takes
left : (E r s : ℕ) (p : Running) (ss : List ProcessorStep) → IsWellFormed p → KeepsAll ss → IsLevel E r s p
    → DecidesWithin r eevdf s p ss
    → Left E r p (after_steps eevdf p ss)
left E r s p [] w k l d = record { formed = w; weight = refl; each = l.each }
left E r s p (Pass now ∷ ss) w k l d =
    let m = charge eevdf p now in
    via E r p m (after_steps eevdf m ss) (weight_charged p now)
    (left E r (s + rise p now) m ss (well_formed_stepped eevdf p (Pass now) w tt) k.1 (pass E r s p now w l d.0) d.1)
left E r s p (Decide ∷ ss) w k l d =
    let m = stepped eevdf p Decide in
    via E r p m (after_steps eevdf m ss) (total_weight-decided eevdf p)
    (left E r 0 m ss (well_formed_stepped eevdf p Decide w tt) k.1 (decide E r s p w l) d.1)
left E r s p (Mark ∷ ss) w k l d =
    let m = stepped eevdf p Mark in
    via E r p m (after_steps eevdf m ss) refl
    (left E r s m ss (well_formed_stepped eevdf p Mark w tt) k.1 (record { runs = l.runs; each = l.each }) d.1)
left E r s p (Enter t ∷ ss) w k l d = absurd k.0
left E r s p (Leave i ∷ ss) w k l d = absurd k.0

-- The beginning

-- none of some tasks is further ahead of the mean than the furthest
none_further : (mean n : ℕ) (xs : List Task) → furthest mean xs ≤ n → AllByRecursion (λ t. t.v ≤ mean + n) xs
none_further mean n [] h = tt
none_further mean n (t ∷ xs) h = (omega arith, none_further mean n xs (omega arith))

-- the mean times the weight of all is at most their weighted sum
mean_below : (xs : List Task) → total_weight xs * mean_at xs ≤ weighted_sum xs
mean_below [] = omega arith
mean_below (t ∷ xs) = omega (arith, div-mul-le_self (weighted_sum (t ∷ xs)) (total_weight (t ∷ xs)))

-- in numbers: a task that is ahead of the mean by at most a is within what it may be ahead
begins_by : (W M mean a v o most : ℕ) → W * mean ≤ M → v ≤ mean + a → W * v ≤ M + (W * a + o * most)
begins_by W M mean a v o most h le = omega (arith, mul-le-mul_left W le)

-- a processor is level when it begins, with E as the weight of all times the lead of the furthest
begins : (r : ℕ) (p : Running) → IsWellFormed p → IsLevel (weight_present p * furthest (mean_at (present_at p)) (present_at p)) r 0 p
begins r p w =
    let xs = present_at p in
    let mean = mean_at xs in
    let a = furthest mean xs in
    let all = All-from_recursion (λ (t : Task). t.v ≤ mean + a) xs (none_further mean a xs (omega arith)) in
    record {
      runs = λ t e.
          begins_by (weight_present p) (weighted_v_at p) mean a t.v (weight_present p - t.weight) (vdelta_of 0 t.weight) (mean_below xs)
          (of_each (λ (x : Task). x.v ≤ mean + a) p t.id t all (current_present p.queue p.mark p.current p.last t e));
      each = λ i t f.
          begins_by (weight_present p) (weighted_v_at p) mean a t.v (weight_present p - t.weight) (vdelta_of r t.weight) (mean_below xs)
          (of_each (λ (x : Task). x.v ≤ mean + a) p i t all f);
    }

-- The bound in time

-- in numbers: a task that is no further behind than it may be is owed no more than its bound, before the division
numbers : (W M w v V g a r m o x : ℕ) → W ≡ w + o → W * V ≤ M → V ≡ v + g → 1024 * x ≤ w * g
    → w * M ≤ w * (W * v) + (o * (W * a) + 1024 * r * (m * W + w))
    → x * (1024 * W) ≤ (o * a * W + 1024 * r * w) + m * r * (1024 * W)
numbers W M w v V g a r m o x split mean up lag law =
    let b = mul-le-mul_left w mean in
    let c = ap (λ n. w * (W * n)) up in
    let e = mul-le-mul_left W lag in
    omega arith

-- in numbers: x is at most k and num over D together, if x times D is at most num and k times D together:
part : (x k y D num : ℕ) → x ≡ k + y → 1 ≤ D → x * D ≤ num + k * D → x ≤ k + num / D
part x k y D num e pos h =
    let a = ap (λ n. n * D) e in
    let q = le-div y num D (omega arith) (omega arith) in
    omega arith

within_by : (x k D num : ℕ) (b : Bool) → leb x k ≡ b → 1 ≤ D → x * D ≤ num + k * D → x ≤ k + num / D
within_by x k D num true e pos h = let le : x ≤ k = grind (arith, nat_tests) in omega arith
within_by x k D num false e pos h = let le : k ≤ x = grind (arith, nat_tests) in part x k (x - k) D num (omega arith) pos h

-- in numbers: so it is owed no more than its bound, whether it is behind the mean or not
behind_by : (W M w v a r m o : ℕ) (b : Bool) → leb (M / W) v ≡ b → 1 ≤ W → W ≡ w + o
    → w * M ≤ w * (W * v) + (o * (W * a) + 1024 * r * (m * W + w))
    → w * (M / W - v) / 1024 ≤ m * r + (o * a * W + 1024 * r * w) / (1024 * W)
behind_by W M w v a r m o true e pos split law =
    let le : M / W ≤ v = grind (arith, nat_tests) in
    let none : M / W - v ≡ 0 = omega arith in
    rw none (omega arith)
behind_by W M w v a r m o false e pos split law =
    let le : v ≤ M / W = grind (arith, nat_tests) in
    let g = M / W - v in
    let x = w * g / 1024 in
    let lag : 1024 * x ≤ w * g = omega (arith, div-mul-le_self (w * g) 1024) in
    let mean : W * (M / W) ≤ M = omega (arith, div-mul-le_self M W) in
    let whole = numbers W M w v (M / W) g a r m o x split mean (omega arith) lag law in
    within_by x (m * r) (1024 * W) (o * a * W + 1024 * r * w) (leb x (m * r)) refl (omega arith) whole

-- where a task is present, the mean is the weighted sum over the weight of all
mean_is : (j : ℕ) (xs : List Task) (b : Task) → find_task j xs ≡ Some b → mean_at xs ≡ weighted_sum xs / total_weight xs
mean_is j [] b f = cc
mean_is j (t ∷ xs) b f = refl

-- a task that is no further behind than it may be is owed no more than its bound
finish : (r a W : ℕ) (q : Running) (j : ℕ) (b : Task) → task_at j q ≡ Some b → 15 ≤ b.weight → weight_present q ≡ W
    → b.weight * weighted_v_at q
    ≤ b.weight * (weight_present q * b.v)
    + ((weight_present q - b.weight) * (W * a) + 1024 * r * ((length (present_at q) - 2) * weight_present q + b.weight))
    → owed (mean_at (present_at q)) b ≤ owed_at_most a r (length (present_at q)) (weight_present q) b.weight
finish r a W q j b f low same law =
    let xs = present_at q in
    let split = weights_split j xs b f in
    let o = weight_present q - b.weight in
    let all : W * a ≡ weight_present q * a = ap (λ n. n * a) (sym same) in
    rw (mean_is j xs b f) (behind_by (weight_present q) (weighted_v_at q) b.weight b.v a r (length xs - 2) o
    (leb (weighted_v_at q / weight_present q) b.v) refl (omega arith) (omega arith) (rw all at law))

-- under EEVDF, while none comes and none goes, no task is owed more than is allowed
pub eevdf_owes_within : EevdfOwesWithin
eevdf_owes_within r p ss j b s k d f =
    let w = well_formed p s in
    let a = furthest (mean_at (present_at p)) (present_at p) in
    let E = weight_present p * a in
    let q = after_steps eevdf p ss in
    let end = left E r 0 p ss w k (begins r p w) d in
    let e = end.formed in
    let flat : Running = record q { current = None; queue = present_at q } in
    let sound_flat = well_formed_is_sound flat (record { distinct = e.distinct; weights = e.weights; ends = e.ends }) in
    let ahead : Task → Type 0 = λ t. weight_present q * t.v ≤ weighted_v_at q + most_ahead E r (weight_present q) t.weight in
    let bal : IsBalanced E r flat = record { current = tt; each = All-from_ids ahead (present_at q) e.distinct end.each } in
    let long = none_is_owed_long E r flat j b sound_flat bal f in
    finish r a (weight_present p) q j b f (e.weights j b f).0 end.weight long
