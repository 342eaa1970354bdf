-- What holds of each id's task holds of each that is present, and the other way.
use Rattle.std.proofs.Common.{◌≡◌, ℕ, ◌+◌, ◌*◌, List, Option, Some, None, refl, arith}
use Rattle.std.specs.Prelude.{All, IfSome, slice_index_or}
use Rattle.std.proofs.lemmas.List.Elements.{Contains-get_or}
use Rattle.bq_disc.specs.Tasks.{Task, find_task, without}
use Rattle.bq_disc.specs.Totals.{total_weight, weighted_sum}
use Rattle.bq_disc.specs.Queues.{HasDistinctIds}
use Rattle.bq_disc.proofs.SetLemmas.{find_task-Contains}
use Rattle.bq_disc.proofs.SameSumLemmas.{sum_of-without}
use Rattle.bq_fairness.proofs.SumLemmas.{total_weight-sum, weighted_sum-sum}

-- if ids are distinct, what holds of the task found by each id holds of each task
pub All-from_ids : (P : Task → Type 0) (xs : List Task) → HasDistinctIds xs → ((i : ℕ) (t : Task) → find_task i xs ≡ Some t → P t) → All P xs
All-from_ids P xs d h = λ k x l.
    let t = slice_index_or xs k x in
    let c = Contains-get_or xs k x l in
    h t.id t (find_task-Contains xs t c.0 d c.1 c.2)

-- what holds if a value is there holds of the value that is there
pub of_some : (P : Task → Type 0) (o : Option Task) (t : Task) → IfSome o P → o ≡ Some t → P t
of_some P None t h e = cc
of_some P (Some x) t h e = let same : x ≡ t = cc in rw same at h

-- what holds of whatever value is there holds if one is there
pub IfSome-from : (P : Task → Type 0) (o : Option Task) → ((t : Task) → o ≡ Some t → P t) → IfSome o P
IfSome-from P None h = tt
IfSome-from P (Some x) h = h x refl

-- the weights together are one's own and the others'
pub weights_split : (i : ℕ) (xs : List Task) (t : Task) → find_task i xs ≡ Some t → total_weight xs ≡ t.weight + total_weight (without i xs)
weights_split i xs t f =
    let e = sum_of-without (λ (x : Task). x.weight) i xs t f in
    omega (arith, e, total_weight-sum xs, total_weight-sum (without i xs))

-- the weighted sum is one's own part and the others'
pub moments_split : (i : ℕ) (xs : List Task) (t : Task) → find_task i xs ≡ Some t
    → weighted_sum xs ≡ t.weight * t.v + weighted_sum (without i xs)
moments_split i xs t f =
    let e = sum_of-without (λ (x : Task). x.weight * x.v) i xs t f in
    omega (arith, e, weighted_sum-sum xs, weighted_sum-sum (without i xs))
