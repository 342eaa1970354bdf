-- CFS is fair: what two tasks are served, each scaled by its weight, stays close.
use Rattle.std.specs.Prelude.{◌≡◌, ℕ, ◌+◌, ◌*◌, ◌≤◌, max, List, length, Some, All, IsSome}
use Rattle.bq_cfs.specs.declared.discipline.TheConstants.{GRANULARITY}
use Rattle.bq_weights.specs.VirtualTime.{vdelta_of}
use Rattle.bq_disc.specs.Tasks.{Task}
use Rattle.bq_disc.specs.OneProcessor.{Running, present_at}
use Rattle.bq_cfs.specs.Cfs.{cfs}
use Rattle.bq_cfs.specs.Spread.{AreTasksSound}
use Rattle.bq_fairness.specs.Histories.{HasRoom, TicksRiseByAtMost, task_at, served}
use Rattle.bq_fairness.specs.Work.{weight_present, weighted_v_at, booked, elapsed, most_lost}
use Rattle.bq_weights.specs.declared.TheConstants.{NICE_0_WEIGHT}

-- Proportional service: of two tasks a and b, of ids i and j, a comes to no more virtual time than the sum of three: the
-- greater of where it began and 1,000,000 beyond where b began; what b was served; and one rise at a's own weight
abbrev pub CfsServesInProportion : Type 0
CfsServesInProportion =
    (r : ℕ) (p : Running) (nows : List ℕ) (i j : ℕ) (a b : Task) →
    AreTasksSound p → HasRoom p → TicksRiseByAtMost r cfs p nows → task_at i p ≡ Some a → task_at j p ≡ Some b →
    a.v + served i cfs p nows ≤ served j cfs p nows + max a.v (b.v + GRANULARITY) + vdelta_of r a.weight

-- What any two tasks are served differs by at most their distance at the start, the granularity, and one rise
abbrev pub CfsServesWithin : Type 0
CfsServesWithin =
    (S r : ℕ) (p : Running) (nows : List ℕ) (i j : ℕ) (a b : Task) →
    AreTasksSound p → HasRoom p → TicksRiseByAtMost r cfs p nows → task_at i p ≡ Some a → task_at j p ≡ Some b → b.v ≤ a.v + S →
    served i cfs p nows ≤ served j cfs p nows + S + GRANULARITY + vdelta_of r a.weight

-- Service by share: what a task is served, times the weights of all, is at least what is booked, except for a bound
abbrev pub CfsServesItsShare : Type 0
CfsServesItsShare =
    (V r : ℕ) (p : Running) (nows : List ℕ) (j : ℕ) (b : Task) →
    AreTasksSound p → HasRoom p → All (λ t. t.v ≤ V) (present_at p) → TicksRiseByAtMost r cfs p nows → task_at j p ≡ Some b →
    weighted_v_at p + booked cfs p nows ≤ weight_present p * (served j cfs p nows + max V (b.v + GRANULARITY)) + NICE_0_WEIGHT * r * length (present_at p)

-- Bounded waiting: as long as a task is served nothing, the clock rises by no more than this
abbrev pub CfsWaiting : Type 0
CfsWaiting =
    (L S r : ℕ) (p : Running) (nows : List ℕ) (j : ℕ) (b : Task) →
    AreTasksSound p → HasRoom p → All (λ t. (L ≤ t.v) × (t.v ≤ L + S)) (present_at p) → TicksRiseByAtMost r cfs p nows → IsSome p.current → task_at j p ≡ Some b → served j cfs p nows ≡ 0 →
    NICE_0_WEIGHT * elapsed cfs p nows ≤ weight_present p * (S + GRANULARITY) + NICE_0_WEIGHT * r * length (present_at p) + most_lost nows
