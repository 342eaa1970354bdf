-- What tasks are owed under EEVDF while no task comes or goes at their processor, and how much that may be.
use Rattle.std.specs.Prelude.{ℕ, ◌+◌, ◌-◌, ◌*◌, ◌/◌, ◌^◌, min, max, List, [], ◌∷◌, length, Option, Some, None, unwrap_or}
use Rattle.std.specs.Option.{option_map_or}
use Rattle.bq_weights.specs.VirtualTime.{time_of}
use Rattle.bq_disc.specs.Tasks.{Task}
use Rattle.bq_disc.specs.Totals.{total_weight, mean_of}
use Rattle.bq_disc.specs.Counts.{saturating_sum}
use Rattle.bq_bounds.specs.declared.charge.Charge.{Charge}
use Rattle.bq_bounds.specs.declared.stretch.Stretch.{Stretch}
use Rattle.bq_bounds.specs.Watches.{greater}
use Rattle.bq_weights.specs.declared.TheConstants.{NICE_0_WEIGHT}

-- the mean v of some tasks, rounded down
abbrev pub mean_at : List Task → ℕ
mean_at xs = unwrap_or (mean_of xs) 0

-- how far the furthest of some tasks is ahead of a mean, 0 if none is ahead
abbrev pub furthest : ℕ → List Task → ℕ
furthest mean [] = 0
furthest mean (t ∷ xs) = max (t.v - mean) (furthest mean xs)

-- what a task is owed at this mean: the time in which it would gain the virtual time that it is behind by
abbrev pub owed : ℕ → Task → ℕ
owed mean t = time_of (mean - t.v) t.weight

-- What one of n tasks may be owed. Its weight is w, and W is the weight of all. At the start no task was further ahead than a, and the
-- clock rises by at most r between two decisions. The bound is n - 2 rises, its own share of one rise, and the
-- time that a takes at the weight of the other tasks
abbrev pub owed_at_most : ℕ → ℕ → ℕ → ℕ → ℕ → ℕ
owed_at_most a r n W w = (n - 2) * r + ((W - w) * a * W + NICE_0_WEIGHT * r * w) / (NICE_0_WEIGHT * W)

-- the greatest weight of some tasks
abbrev pub heaviest : List Task → ℕ
heaviest [] = 0
heaviest (t ∷ xs) = max t.weight (heaviest xs)

-- a stretch that begins with these tasks, and in which no task comes or goes
abbrev pub beginning : List Task → Stretch
beginning xs = record { ahead = furthest (mean_at xs) xs; heaviest = heaviest xs; since = 0; most = 0 }

-- the stretch after a rise of the clock
abbrev pub stretched : ℕ → Stretch → Stretch
stretched rise s = let since = saturating_sum s.since rise in record s { since = since; most = max s.most since }

-- what a task is owed in a stretch, and what it may be owed, among n tasks of this mean and of weight W together
abbrev pub lag_by : Stretch → ℕ → ℕ → ℕ → Task → Charge
lag_by s mean n W t = record { difference = min (owed mean t) (2 ^ 64 - 1); bound = min (owed_at_most s.ahead s.most n W t.weight) (2 ^ 64 - 1) }

-- the greatest of what some tasks are owed, the first of equal ones
abbrev pub most_owed_by : (Task → Charge) → List Task → Option Charge
most_owed_by f [] = None
most_owed_by f (t ∷ xs) = Some (option_map_or (greater (Some (f t))) (most_owed_by f xs) (f t))

-- the greatest of what the tasks of a stretch are owed, the first of equal ones
abbrev pub most_owed : Stretch → List Task → Option Charge
most_owed s xs = most_owed_by (lag_by s (mean_at xs) (length xs) (total_weight xs)) xs
