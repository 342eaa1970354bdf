-- The totals of some tasks, and their mean v.
use Rattle.std.specs.Prelude.{Bool, ℕ, suc, ◌+◌, ◌*◌, ◌/◌, ◌≤◌, nat_le, List, [], ◌∷◌, length, Option, Some, None}
use Rattle.std.specs.List.{AllByRecursion}
use Rattle.bq_weights.specs.VirtualTime.{IsWeight}
use Rattle.bq_disc.specs.Tasks.{Task}
use Rattle.bq_disc.specs.declared.totals.Totals.{Totals}
use Rattle.bq_weights.specs.declared.TheConstants.{GREATEST_V, GREATEST_WEIGHT, LEAST_WEIGHT}

-- the sum of the weights of some tasks
abbrev pub total_weight : List Task → ℕ
total_weight [] = 0
total_weight (t ∷ xs) = t.weight + total_weight xs

-- the sum of each weight times its v
abbrev pub weighted_sum : List Task → ℕ
weighted_sum [] = 0
weighted_sum (t ∷ xs) = t.weight * t.v + weighted_sum xs

-- the weighted mean of the v of some tasks; None of no task
abbrev pub mean_of : List Task → Option ℕ
mean_of [] = None
mean_of (x ∷ xs) = Some (weighted_sum (x ∷ xs) / total_weight (x ∷ xs))

-- whether a task's v is at most the mean of tasks with this sum of weights and this weighted sum
abbrev pub is_at_most_mean : ℕ → ℕ → Task → Bool
is_at_most_mean weight sum t = nat_le (weight * t.v) sum

-- no task's v is below m
abbrev pub NoneBelow : ℕ → List Task → Type 0
NoneBelow m xs = AllByRecursion (λ (t : Task). m ≤ t.v) xs

-- the totals of some tasks
abbrev pub sums_of : List Task → Totals
sums_of xs = record { moment = weighted_sum xs; weight = total_weight xs; count = length xs }

-- the totals with one more task
abbrev pub added : Totals → Task → Totals
added s t = record { moment = t.weight * t.v + s.moment; weight = t.weight + s.weight; count = suc s.count }

-- the totals of two lists of tasks together
abbrev pub joined : Totals → Totals → Totals
joined s r = record { moment = s.moment + r.moment; weight = s.weight + r.weight; count = s.count + r.count }

-- a task's weight and v are in their ranges
abbrev pub IsBounded : Task → Type 0
IsBounded t = IsWeight t.weight × (t.v ≤ GREATEST_V)

-- the bounds of totals, in terms of how many tasks there are
pub record HasBounds (s : Totals) : Type 0 where
  pub weight_low : LEAST_WEIGHT * s.count ≤ s.weight
  pub weight_high : s.weight ≤ GREATEST_WEIGHT * s.count
  pub moment_high : s.moment ≤ GREATEST_V * s.weight
