-- What is known of each task of a processor that is within its bound, before and after time has passed.
use Rattle.std.proofs.Common.{ℕ, ◌+◌, ◌*◌, ◌/◌, ◌^◌, ◌≤◌, List, [], ◌∷◌, arith}
use Rattle.std.specs.List.{AllByRecursion}
use Rattle.std.proofs.lemmas.List.Elements.{recursion_from_All}
use Rattle.std.proofs.lemmas.Nat.{le-div}
use Rattle.std.proofs.Math.Nat.{div-mul-le_self, mul-le-mul_left}
use Rattle.bq_weights.specs.VirtualTime.{IsWeight, vdelta_of}
use Rattle.bq_disc.specs.Tasks.{Task}
use Rattle.bq_disc.specs.Discipline.{charged}
use Rattle.bq_disc.specs.OneProcessor.{Running, present_at}
use Rattle.bq_cfs.specs.Cfs.{cfs}
use Rattle.bq_cfs.specs.Spread.{bound, AreTasksSound, IsSpreadWithin}
use Rattle.bq_cfs.proofs.BoundLemmas.{IsNear, bound-near}

-- a shorter time at a greater weight takes no more
vdelta_of-least : (time d w : ℕ) → time ≤ d → 15 ≤ w → vdelta_of time w ≤ vdelta_of d 15
vdelta_of-least time d w le low =
    let q = time * 1024 / w in
    le-div q (d * 1024) 15 (omega arith) (omega (arith, div-mul-le_self (time * 1024) w, mul-le-mul_left q low))

-- what the law is to know of a task while a processor was within V and d at the bound n
pub record IsLevel (V d n : ℕ) (t : Task) : Type 0 where
  pub near : IsNear V n t
  pub reach : t.v ≤ n + vdelta_of d 15
  pub weight : IsWeight t.weight
  pub ends : t.v ≤ 2 ^ 62

-- a charged task rises, by no more than d takes at the least weight, and not beyond 2^62
pub IsLevel-charged : (V d n time : ℕ) (t : Task) → IsLevel V d n t → t.v ≤ n → time ≤ d → IsLevel V d n (charged cfs t time)
IsLevel-charged V d n time t h under le =
    let most = vdelta_of-least time d t.weight le h.weight.0 in
    let near = h.near in
    let ends = h.ends in
    record { near = omega arith; reach = omega arith; weight = h.weight; ends = omega arith }

-- what is known of each of some tasks, joined
level_of : (V d n : ℕ) (xs : List Task) → AllByRecursion (IsNear V n) xs → AllByRecursion (λ t. t.v ≤ n + vdelta_of d 15) xs
    → AllByRecursion (λ t. IsWeight t.weight) xs → AllByRecursion (λ t. t.v ≤ 2 ^ 62) xs
    → AllByRecursion (IsLevel V d n) xs
level_of V d n [] near reach weight ends = tt
level_of V d n (x ∷ xs) near reach weight ends = (
  record { near = near.0; reach = reach.0; weight = weight.0; ends = ends.0 },
  level_of V d n xs near.1 reach.1 weight.1 ends.1,
)

-- the tasks of a processor that is within its bound
pub within_bound_is_level : (V d : ℕ) (p : Running) → AreTasksSound p → IsSpreadWithin V d p
    → AllByRecursion (IsLevel V d (bound V (present_at p))) (present_at p)
within_bound_is_level V d p s w =
    let xs = present_at p in
    let n = bound V xs in
    level_of V d n xs (bound-near V xs)
    (recursion_from_All (λ (t : Task). t.v ≤ n + vdelta_of d 15) xs w.each)
    (recursion_from_All (λ (t : Task). IsWeight t.weight) xs s.weights)
    (recursion_from_All (λ (t : Task). t.v ≤ 2 ^ 62) xs s.ends)
