-- What a processor books: the virtual time of its charges, each times the weight. 1024 of it stand for one nanosecond.
use Rattle.std.specs.Prelude.{◌≡◌, ℕ, ◌+◌, ◌-◌, ◌*◌, ◌≤◌, List, [], ◌∷◌, length, IsSome}
use Rattle.std.specs.Option.{option_map_or}
use Rattle.bq_weights.specs.VirtualTime.{vdelta_of}
use Rattle.bq_disc.specs.Discipline.{Discipline}
use Rattle.bq_disc.specs.Totals.{total_weight, weighted_sum}
use Rattle.bq_disc.specs.OneProcessor.{Running, present_at, ticked, rise}
use Rattle.bq_cfs.specs.Spread.{AreTasksSound}
use Rattle.bq_fairness.specs.Histories.{history, HasRoom}
use Rattle.bq_weights.specs.declared.TheConstants.{NICE_0_WEIGHT}

-- the sum of the weights of all present tasks
abbrev pub weight_present : Running → ℕ
weight_present p = total_weight (present_at p)

-- the sum of weight times v of all present tasks
abbrev pub weighted_v_at : Running → ℕ
weighted_v_at p = weighted_sum (present_at p)

-- the most that rounding takes from what is booked: less than the greatest weight at each Tick
abbrev pub most_lost : List ℕ → ℕ
most_lost nows = 88760 * length nows

-- what a Tick books
abbrev pub booked_at : Running → ℕ → ℕ
booked_at p now = option_map_or (λ t. t.weight * vdelta_of (rise p now) t.weight) p.current 0

-- what some Ticks book together
abbrev pub booked : Discipline → Running → List ℕ → ℕ
booked d p [] = 0
booked d p (now ∷ nows) = booked_at p now + booked d (ticked d p now) nows

-- how far the clock rises in a history
abbrev pub elapsed : Discipline → Running → List ℕ → ℕ
elapsed d p nows = (history d p nows).last - p.last

-- If a task runs, what is booked is the time that passes, except for less than a weight lost at each Tick
abbrev pub BooksTheTime : Type 0
BooksTheTime =
    (d : Discipline) (p : Running) (nows : List ℕ) → AreTasksSound p → IsSome p.current →
    (booked d p nows ≤ NICE_0_WEIGHT * elapsed d p nows) × (NICE_0_WEIGHT * elapsed d p nows ≤ booked d p nows + most_lost nows)

-- The sum of weight times v rises by what is booked, however the discipline decides
abbrev pub MovesTheSum : Type 0
MovesTheSum =
    (d : Discipline) (p : Running) (nows : List ℕ) → AreTasksSound p → HasRoom p →
    (weighted_v_at (history d p nows) ≡ weighted_v_at p + booked d p nows) × (weight_present (history d p nows) ≡ weight_present p)
