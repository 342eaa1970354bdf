-- EEVDF: what a task is owed and served, and how long it waits, by its slice.
use Rattle.std.proofs.Common.{ℕ, ◌+◌, ◌*◌, ◌≤◌, max, length, arith}
use Rattle.std.proofs.lemmas.List.Elements.{All-weaker, recursion_from_All}
use Rattle.std.proofs.Math.Nat.{mul-le-mul_left}
use Rattle.bq_weights.specs.VirtualTime.{vdelta_of}
use Rattle.bq_disc.specs.Tasks.{Task}
use Rattle.bq_disc.specs.OneProcessor.{present_at}
use Rattle.bq_eevdf.specs.Eevdf.{eevdf}
use Rattle.bq_fairness.specs.Histories.{history, served}
use Rattle.bq_fairness.specs.Work.{weight_present, weighted_v_at, booked, elapsed}
use Rattle.bq_fairness.specs.EevdfDeadlines.{EevdfOwedBySlices, EevdfSharesBySlices, EevdfWaitsBySlices}
use Rattle.bq_fairness.proofs.SoundLemmas.{of_each, each_has_room, well_formed, well_formed_history, got_to}
use Rattle.bq_fairness.proofs.SumLemmas.{length-history}
use Rattle.bq_fairness.proofs.ListLemmas.{All-from_ids}
use Rattle.bq_fairness.proofs.CfsShareLemmas.{weighted_sum_within, share_by, least_under, waiting_by}
use Rattle.bq_fairness.proofs.WorkLemmas.{moves_the_sum, books_the_time}
use Rattle.bq_fairness.proofs.DueLemmas.{timely_history, timely_at_start}

-- where N is at most `most`, the bound on the weighted sum by N is one by `most`
owed_by : (M W N most r n : ℕ) → M ≤ W * N + 1024 * r * n → N ≤ most → M ≤ W * most + 1024 * r * n
owed_by M W N most r n h le = omega (arith, mul-le-mul_left W le)

-- what a task is owed is bounded by its own slice or where all began, and by a rise for each task
pub owed_by_slices : EevdfOwedBySlices
owed_by_slices V r p nows j b s due h le f =
    let w = well_formed p s in
    let q = history eevdf p nows in
    let timely = timely_history V r p nows w (timely_at_start V r p due h) le in
    let N = max V b.deadline in
    let reach : Task → Type 0 = λ t. t.v ≤ N + vdelta_of r t.weight in
    let all = All-from_ids reach (present_at q) (well_formed_history eevdf p nows w).distinct (λ i t e. timely.each i j t b e f) in
    let sum = weighted_sum_within N r (present_at q) (recursion_from_All reach (present_at q) all) in
    let high = (timely.due j b f).high in
    owed_by (weighted_v_at q) (weight_present q) N (max V (b.v + vdelta_of b.slice b.weight)) r (length (present_at q)) sum (omega arith)

-- each task is served its share of what is booked, except for its slice or where all began, and a rise for each task
pub shares_by_slices : EevdfSharesBySlices
shares_by_slices V r p nows j b s room due h le f =
    let w = well_formed p s in
    let q = history eevdf p nows in
    let timely = timely_history V r p nows w (timely_at_start V r p due h) le in
    let u = got_to eevdf p nows j b w (each_has_room p room) f in
    let N = max V u.0.deadline in
    let reach : Task → Type 0 = λ t. t.v ≤ N + vdelta_of r t.weight in
    let all = All-from_ids reach (present_at q) (well_formed_history eevdf p nows w).distinct (λ i t e. timely.each i j t u.0 e u.1) in
    let sum = weighted_sum_within N r (present_at q) (recursion_from_All reach (present_at q) all) in
    let moved = moves_the_sum eevdf p nows s room in
    let m = rw (moved.0, moved.1, length-history eevdf p nows) at sum in
    let v = u.2 in
    let high = (timely.due j u.0 u.1).high in
    let high_own = rw (u.3, u.4) at high in
    share_by (weighted_v_at p) (weight_present p) N (max V (b.v + vdelta_of b.slice b.weight)) (booked eevdf p nows)
    (served j eevdf p nows) r (length (present_at p)) m (omega arith)

-- while a task is served nothing the clock rises by no more than its slice, the spread at the start and rises allow
pub waits_by_slices : EevdfWaitsBySlices
waits_by_slices L S r p nows j b s room due h le busy f none =
    let V = L + S in
    let range : Task → Type 0 = λ x. (L ≤ x.v) × (x.v ≤ L + S) in
    let high = All-weaker range (λ (x : Task). x.v ≤ V) (λ x k. k.1) (present_at p) h in
    let low = All-weaker range (λ (x : Task). L ≤ x.v) (λ x k. k.0) (present_at p) h in
    let own = of_each range p j b h f in
    let share = shares_by_slices V r p nows j b s room due high le f in
    let near = books_the_time eevdf p nows s busy in
    let slice = vdelta_of b.slice b.weight in
    waiting_by (weighted_v_at p) (weight_present p) L S slice (max V (b.v + slice)) (booked eevdf p nows)
    (1024 * elapsed eevdf p nows) (served j eevdf p nows) r (length (present_at p)) (88760 * length nows) none
    (least_under L (present_at p) (recursion_from_All (λ (x : Task). L ≤ x.v) (present_at p) low)) (omega arith) share near.1
