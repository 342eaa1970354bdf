-- CFS: each task is served its share of what is booked, so none waits long.
use Rattle.std.proofs.Common.{◌≡◌, ℕ, ◌+◌, ◌*◌, ◌≤◌, max, List, [], ◌∷◌, length, ap, arith}
use Rattle.std.specs.List.{AllByRecursion}
use Rattle.std.proofs.lemmas.List.Elements.{All-weaker, recursion_from_All}
use Rattle.std.proofs.Math.Nat.{mul-le-mul_left}
use Rattle.bq_weights.specs.VirtualTime.{vdelta_of}
use Rattle.bq_disc.specs.Tasks.{Task}
use Rattle.bq_disc.specs.Totals.{total_weight, weighted_sum}
use Rattle.bq_disc.specs.OneProcessor.{present_at}
use Rattle.bq_cfs.specs.Cfs.{cfs}
use Rattle.bq_fairness.specs.Histories.{history, served}
use Rattle.bq_fairness.specs.Work.{weight_present, weighted_v_at, booked, elapsed}
use Rattle.bq_fairness.specs.CfsFairness.{CfsServesItsShare, CfsWaiting}
use Rattle.bq_fairness.proofs.SoundLemmas.{of_each, each_has_room, vdelta_of-weighted, well_formed, well_formed_history, got_to}
use Rattle.bq_fairness.proofs.SumLemmas.{length-history}
use Rattle.bq_fairness.proofs.ListLemmas.{All-from_ids}
use Rattle.bq_fairness.proofs.CfsFairLemmas.{fair_history, fair_at_start}
use Rattle.bq_fairness.proofs.WorkLemmas.{moves_the_sum, books_the_time}

-- where none of some tasks is beyond N by more than one rise at its own weight
pub weighted_sum_within : (N r : ℕ) (xs : List Task) → AllByRecursion (λ t. t.v ≤ N + vdelta_of r t.weight) xs
    → weighted_sum xs ≤ total_weight xs * N + 1024 * r * length xs
weighted_sum_within N r [] h = omega arith
weighted_sum_within N r (x ∷ xs) h =
    let here = mul-le-mul_left x.weight h.0 in
    let rest = weighted_sum_within N r xs h.1 in
    let most = vdelta_of-weighted r x.weight in
    let n : length (x ∷ xs) ≡ length xs + 1 = omega arith in
    let product = ap (λ k. 1024 * r * k) n in
    omega arith

-- where N is at most what was served and the most at the start, the bound by N is one by these
pub share_by : (M W N most B s r n : ℕ) → M + B ≤ W * N + 1024 * r * n → N ≤ s + most → M + B ≤ W * (s + most) + 1024 * r * n
share_by M W N most B s r n h le = omega (arith, mul-le-mul_left W le)

-- under CFS each task is served its share of what is booked, except for a bound that the history does not move
pub cfs_serves_its_share : CfsServesItsShare
cfs_serves_its_share V r p nows j b s room h le f =
    let w = well_formed p s in
    let q = history cfs p nows in
    let fair = fair_history V r p nows w (fair_at_start V r p h) le in
    let u = got_to cfs p nows j b w (each_has_room p room) f in
    let N = max V (u.0.v + 1000000) in
    let reach : Task → Type 0 = λ t. t.v ≤ N + vdelta_of r t.weight in
    let all = All-from_ids reach (present_at q) (well_formed_history cfs p nows w).distinct (λ i t e. fair.each i j t u.0 e u.1) in
    let sum = weighted_sum_within N r (present_at q) (recursion_from_All reach (present_at q) all) in
    let moved = moves_the_sum cfs p nows s room in
    let m = rw (moved.0, moved.1, length-history cfs p nows) at sum in
    let v = u.2 in
    share_by (weighted_v_at p) (weight_present p) N (max V (b.v + 1000000)) (booked cfs p nows) (served j cfs p nows)
    r (length (present_at p)) m (omega arith)

-- where no v is below L, the weighted sum is at least L times the weights together
pub least_under : (L : ℕ) (xs : List Task) → AllByRecursion (λ t. L ≤ t.v) xs → total_weight xs * L ≤ weighted_sum xs
least_under L [] h = omega arith
least_under L (x ∷ xs) h =
    let here = mul-le-mul_left x.weight h.0 in
    omega (arith, here, least_under L xs h.1)

-- where a task was served nothing, the bound on what is booked is one on the time that passes
pub waiting_by : (M W L S g most B A s r n c : ℕ) → s ≡ 0 → W * L ≤ M → most ≤ L + S + g
    → M + B ≤ W * (s + most) + 1024 * r * n → A ≤ B + c
    → A ≤ W * (S + g) + 1024 * r * n + c
waiting_by M W L S g most B A s r n c none low le h near =
    let nothing : s + most ≤ L + S + g = omega arith in
    let product = mul-le-mul_left W nothing in
    omega arith

-- under CFS, while a task is served nothing the clock rises by no more than a bound
pub cfs_waiting : CfsWaiting
cfs_waiting L S r p nows j b s room h le busy f none =
    let V = L + S in
    let range : Task → Type 0 = λ x. (L ≤ x.v) × (x.v ≤ L + S) in
    let high = All-weaker range (λ (x : Task). x.v ≤ V) (λ x k. k.1) (present_at p) h in
    let low = All-weaker range (λ (x : Task). L ≤ x.v) (λ x k. k.0) (present_at p) h in
    let own = of_each range p j b h f in
    let share = cfs_serves_its_share V r p nows j b s room high le f in
    let near = books_the_time cfs p nows s busy in
    waiting_by (weighted_v_at p) (weight_present p) L S 1000000 (max V (b.v + 1000000)) (booked cfs p nows)
    (1024 * elapsed cfs p nows) (served j cfs p nows) r (length (present_at p)) (88760 * length nows) none
    (least_under L (present_at p) (recursion_from_All (λ (x : Task). L ≤ x.v) (present_at p) low)) (omega arith) share near.1
