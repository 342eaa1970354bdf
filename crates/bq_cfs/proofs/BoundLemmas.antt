-- The bound of some tasks: what is near each of them is at most the bound, and the bound is near each of them.
use Rattle.std.proofs.Common.{◌≡◌, ℕ, ◌+◌, ◌≤◌, max, Bool, true, false, cond, List, [], ◌∷◌, refl, arith}
use Rattle.std.specs.Prelude.{All}
use Rattle.std.specs.List.{AllByRecursion}
use Rattle.std.proofs.lemmas.List.Elements.{All-contains}
use Rattle.std.proofs.lemmas.Bool.Decides.{nat_tests}
use Rattle.bq_disc.specs.Tasks.{Task, runs_before, former}
use Rattle.bq_disc.specs.Orders.{first_by-member}
use Rattle.bq_disc.specs.Totals.{NoneBelow}
use Rattle.bq_cfs.specs.Cfs.{least}
use Rattle.bq_cfs.specs.Spread.{bound}

-- what holds of each of some tasks, in other words
pub weaker_of_each : (P Q : Task → Type 0) → ((t : Task) → P t → Q t) → (xs : List Task) → AllByRecursion P xs → AllByRecursion Q xs
weaker_of_each P Q f [] h = tt
weaker_of_each P Q f (x ∷ xs) h = (f x h.0, weaker_of_each P Q f xs h.1)

-- The least v

-- the former of a task and one of least v has the least v of all
least_of_two : (x m : Task) (xs : List Task) (b : Bool) → runs_before m x ≡ b → NoneBelow m.v xs → NoneBelow (cond b m x).v (x ∷ xs)
least_of_two x m xs true e h = (grind (arith, nat_tests), h)
least_of_two x m xs false e h =
    let le : x.v ≤ m.v = grind (arith, nat_tests) in
    (omega arith, weaker_of_each (λ (t : Task). m.v ≤ t.v) (λ (t : Task). x.v ≤ t.v) (λ t k. omega arith) xs h)

-- no v is below that of the least task
pub none_below_least : (x : Task) (xs : List Task) → NoneBelow (former runs_before x (least xs)).v (x ∷ xs)
none_below_least x [] = (omega arith, tt)
none_below_least x (y ∷ ys) =
    least_of_two x (former runs_before y (least ys)) (y ∷ ys) (runs_before (former runs_before y (least ys)) x) refl
    (none_below_least y ys)

-- The bound

-- n is at most V, or at most 1,000,000 beyond the task
abbrev pub IsNear : ℕ → ℕ → Task → Type 0
IsNear V n t = n ≤ max V (t.v + 1000000)

-- a bound is at least V
pub bound-least : (V : ℕ) (xs : List Task) → V ≤ bound V xs
bound-least V [] = omega arith
bound-least V (x ∷ xs) = omega arith

-- a bound is near each task
pub bound-near : (V : ℕ) (xs : List Task) → AllByRecursion (IsNear V (bound V xs)) xs
bound-near V [] = tt
bound-near V (x ∷ xs) =
    let m = former runs_before x (least xs) in
    weaker_of_each (λ (t : Task). m.v ≤ t.v) (IsNear V (bound V (x ∷ xs))) (λ t k. omega arith) (x ∷ xs) (none_below_least x xs)

-- what is near each of some tasks is at most their bound
pub at_most_bound : (V n : ℕ) (x : Task) (xs : List Task) → All (IsNear V n) (x ∷ xs) → n ≤ bound V (x ∷ xs)
at_most_bound V n x xs h = All-contains (IsNear V n) (x ∷ xs) (former runs_before x (least xs)) h (first_by-member runs_before (x ∷ xs))
