-- EEVDF: each task is served its share of what is booked, two of them in proportion, and none waits long.
use Rattle.std.proofs.Common.{◌≡◌, ℕ, ◌+◌, ◌*◌, ◌≤◌, arith}
use Rattle.std.proofs.Math.Nat.{mul-le-mul_left}
use Rattle.bq_eevdf.specs.Eevdf.{eevdf}
use Rattle.bq_fairness.specs.Histories.{history, served}
use Rattle.bq_fairness.specs.Work.{weight_present, weighted_v_at, booked, elapsed, most_lost}
use Rattle.bq_fairness.specs.EevdfFairness.{most_ahead, most_behind, EevdfServesItsShare, EevdfServesInProportion, EevdfWaiting}
use Rattle.bq_fairness.proofs.SoundLemmas.{of_each, each_has_room, well_formed, got_to}
use Rattle.bq_fairness.proofs.SumLemmas.{length-history}
use Rattle.bq_fairness.proofs.WorkLemmas.{moves_the_sum, books_the_time}
use Rattle.bq_fairness.proofs.BalanceLemmas.{history_stays_balanced}
use Rattle.bq_fairness.proofs.OwedLemmas.{none_is_owed_long}

-- under EEVDF each task is served its share of what is booked, except for what it may be owed
pub eevdf_serves_its_share : EevdfServesItsShare
eevdf_serves_its_share E r p nows j b s room bal le f =
    let w = well_formed p s in
    let q = history eevdf p nows in
    let end = history_stays_balanced E r p nows s bal le in
    let u = got_to eevdf p nows j b w (each_has_room p room) f in
    let owed = none_is_owed_long E r q j u.0 end.0 end.1 u.1 in
    let moved = moves_the_sum eevdf p nows s room in
    rw (u.3, u.2, moved.0, moved.1, length-history eevdf p nows) at owed

-- what one may be ahead of the mean and what another may be behind it bound how far the one comes beyond the other
proportion_by : (w W x y M A B : ℕ) → W * x ≤ M + A → w * M ≤ w * (W * y) + B → w * (W * x) ≤ w * (W * y) + w * A + B
proportion_by w W x y M A B ahead owed = omega (arith, mul-le-mul_left w ahead)

-- under EEVDF a task comes beyond another by no more than it may be ahead and the other may be owed
pub eevdf_serves_in_proportion : EevdfServesInProportion
eevdf_serves_in_proportion E r p nows i j a b s room bal le f g =
    let w = well_formed p s in
    let q = history eevdf p nows in
    let end = history_stays_balanced E r p nows s bal le in
    let u = got_to eevdf p nows i a w (each_has_room p room) f in
    let moved = moves_the_sum eevdf p nows s room in
    let ahead = of_each (λ x. weight_present q * x.v ≤ weighted_v_at q + most_ahead E r (weight_present q) x.weight) q i u.0 end.1.each u.1 in
    let ahead_here = rw (u.3, u.2, moved.0, moved.1) at ahead in
    let owed = eevdf_serves_its_share E r p nows j b s room bal le g in
    let B = most_behind E r p b.weight in
    let law =
    proportion_by b.weight (weight_present p) (a.v + served i eevdf p nows) (b.v + served j eevdf p nows)
    (weighted_v_at p + booked eevdf p nows) (most_ahead E r (weight_present p) a.weight) B ahead_here (omega (arith, owed)) in
    omega (arith, law)

-- where a task was served nothing, the bound on what is booked is one on the time that passes
waiting_by : (w M W v A B c s rest : ℕ) → s ≡ 0 → A ≤ B + c → w * (M + B) ≤ w * (W * (v + s)) + rest → w * (M + A) ≤ w * (W * v + c) + rest
waiting_by w M W v A B c s rest none near owed =
    let nothing : v + s ≡ v = omega arith in
    let here = rw nothing at owed in
    let product = mul-le-mul_left w near in
    omega arith

-- under EEVDF, while a task is served nothing the clock rises by no more than a bound
pub eevdf_waiting : EevdfWaiting
eevdf_waiting E r p nows j b s room bal le busy f none =
    let owed = eevdf_serves_its_share E r p nows j b s room bal le f in
    let near = books_the_time eevdf p nows s busy in
    let rest = most_behind E r p b.weight in
    let law =
    waiting_by b.weight (weighted_v_at p) (weight_present p) b.v (1024 * elapsed eevdf p nows) (booked eevdf p nows)
    (most_lost nows) (served j eevdf p nows) rest none near.1 (omega (arith, owed)) in
    omega (arith, law)
