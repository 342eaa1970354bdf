-- The task that runs stays near the least that waits, and near the mean.
use Rattle.std.proofs.Common.{◌≡◌, ℕ, ◌+◌, ◌-◌, ◌*◌, ◌^◌, ◌≤◌, true, List, [], ◌∷◌, map, Option, Some, refl, ap, sym, ◌∙◌, subst, arith}
use Rattle.std.proofs.lemmas.Nat.{le-div}
use Rattle.std.proofs.lemmas.Bool.Decides.{nat_tests}
use Rattle.std.proofs.Math.Nat.{mul-le-mul_left}
use Rattle.std.proofs.lemmas.Option.{same_Some}
use Rattle.bq_disc.specs.Tasks.{Task, present}
use Rattle.bq_disc.specs.Totals.{total_weight, weighted_sum}
use Rattle.bq_disc.specs.Discipline.{charged}
use Rattle.bq_disc.specs.OneProcessor.{Running, present_at, reading}
use Rattle.bq_cfs.specs.Cfs.{cfs}
use Rattle.bq_cfs.proofs.MoveLemmas.{each-find_task}
use Rattle.bq_cfs.proofs.SpreadStayLemmas.{busy_processor}
use Rattle.bq_eevdf.specs.Eevdf.{eevdf, is_eligible}
use Rattle.bq_fairness.specs.Steps.{Decide, Pass, stepped, after_steps}
use Rattle.bq_fairness.proofs.ListLemmas.{of_some}
use Rattle.bq_fairness.proofs.CfsFairLemmas.{IsNearEach, runs_near_each}
use Rattle.bq_fairness.proofs.EligibleLemmas.{IsEarliestOf, runs_earliest, earliest_is_eligible}
use Rattle.bq_fairness.proofs.SumLemmas.{total_weight-decided, weighted_sum-decided}
use Rattle.bq_bounds.specs.Nearness.{CfsStaysNear, EevdfStaysNear}
use Rattle.bq_bounds.proofs.PassLemmas.{ran_at}

-- under CFS the task that runs stays near each one that waits
pub cfs_stays_near : CfsStaysNear
cfs_stays_near p nows j a b u distinct weight decides there runs =
    let q = stepped cfs p Decide in
    let rest = ran_at cfs q a nows decides weight.0 in
    let same : u ≡ rest.task = same_Some u rest.task (sym runs ∙ rest.runs) in
    let near = of_some (IsNearEach (present_at p)) q.current a (runs_near_each p distinct) decides in
    let le = of_some (λ t. a.v ≤ t.v + 1000000) _ b (each-find_task (λ t. a.v ≤ t.v + 1000000) j (present_at p) near) there in
    let up = rest.v in
    (ap (λ (t : Task). t.weight) same ∙ rest.weight, omega (arith, ap (λ (t : Task). t.v) same))

-- The mean is not behind where the task that runs began

-- a place that is at most at the mean is so when one task has moved on
more : (w x y s W v M : ℕ) → W ≡ w + s → W * v ≤ w * x + M → x ≤ y → W * v ≤ w * y + M
more w x y s W v M e h le = omega (arith, mul-le-mul_left w le)

-- a place that was at most at the mean is not ahead of the mark after readings, of a busy processor, and of any:
mean : (q : List Task) (mark : ℕ) (a : Task) (last v now : ℕ) (nows : List ℕ)
    → 15 ≤ a.weight → a.v ≤ 2 ^ 62 → total_weight (a ∷ q) * v ≤ weighted_sum (a ∷ q)
    → v ≤ (after_steps eevdf (busy_processor q mark a last) (map Pass (now ∷ nows))).mark
mean q mark a last v now [] low ends h =
    let b = charged eevdf a (reading last now - last) in
    let up : a.v ≤ b.v = omega arith in
    let still = more a.weight a.v b.v (total_weight q) (total_weight (a ∷ q)) v (weighted_sum q) refl h up in
    le-div v (weighted_sum (b ∷ q)) (total_weight (b ∷ q)) (omega arith) (omega arith)
mean q mark a last v now (next ∷ nows) low ends h =
    let at = reading last now in
    let b = charged eevdf a (at - last) in
    let up : a.v ≤ b.v = omega arith in
    let still = more a.weight a.v b.v (total_weight q) (total_weight (a ∷ q)) v (weighted_sum q) refl h up in
    mean q (eevdf.mark mark (b ∷ q)) b at v next nows low (omega arith) still

mean_at : (p : Running) (a : Task) (v now : ℕ) (nows : List ℕ)
    → p.current ≡ Some a → 15 ≤ a.weight → a.v ≤ 2 ^ 62 → total_weight (present_at p) * v ≤ weighted_sum (present_at p)
    → v ≤ (after_steps eevdf p (map Pass (now ∷ nows))).mark
mean_at p a v now nows e low ends =
    let P : Option Task → Type 0 = λ o.
    total_weight (present o p.queue) * v ≤ weighted_sum (present o p.queue) →
    v ≤ (after_steps eevdf (record p { current = o }) (map Pass (now ∷ nows))).mark in
    subst P (sym e) (mean p.queue p.mark a p.last v now nows low ends)

-- a task that is eligible is at most at the mean
pub eligible_at_most_mean : (xs : List Task) (t : Task) → is_eligible xs t ≡ true → total_weight xs * t.v ≤ weighted_sum xs
eligible_at_most_mean xs t h = grind (arith, nat_tests)

-- a place that is at most at the mean of a weight and a sum is so where both stay the same
pub at_most_of_same : (W W' M M' v : ℕ) → W' ≡ W → M' ≡ M → W * v ≤ M → W' * v ≤ M'
at_most_of_same W W' M M' v e f h = omega (arith, ap (λ n. n * v) e)

-- under EEVDF the task that runs stays near the mean
pub eevdf_stays_near : EevdfStaysNear
eevdf_stays_near p now nows a u distinct weight ends decides runs =
    let q = stepped eevdf p Decide in
    let rest = ran_at eevdf q a (now ∷ nows) decides weight.0 in
    let same : u ≡ rest.task = same_Some u rest.task (sym runs ∙ rest.runs) in
    let first = of_some (IsEarliestOf (present_at p)) q.current a (runs_earliest p distinct) decides in
    let eligible = eligible_at_most_mean (present_at p) a (earliest_is_eligible (present_at p) a distinct first) in
    let kept =
    at_most_of_same (total_weight (present_at p)) (total_weight (present_at q)) (weighted_sum (present_at p))
    (weighted_sum (present_at q)) a.v (total_weight-decided eevdf p) (weighted_sum-decided eevdf p) eligible in
    let le = mean_at q a a.v now nows decides weight.0 ends kept in
    let up = rest.v in
    (ap (λ (t : Task). t.weight) same ∙ rest.weight, omega (arith, ap (λ (t : Task). t.v) same))
