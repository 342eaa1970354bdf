-- EEVDF, by slices: no task comes beyond another's deadline by more than one rise. So tasks stay as close to each other as
-- their slices say, however many they are.
use Rattle.std.specs.Prelude.{◌≡◌, ℕ, ◌+◌, ◌*◌, ◌≤◌, max, List, length, Some, All, IsSome}
use Rattle.bq_weights.specs.VirtualTime.{vdelta_of}
use Rattle.bq_disc.specs.Tasks.{Task}
use Rattle.bq_disc.specs.OneProcessor.{Running, present_at}
use Rattle.bq_cfs.specs.Spread.{AreTasksSound}
use Rattle.bq_eevdf.specs.Eevdf.{eevdf}
use Rattle.bq_fairness.specs.Histories.{HasRoom, TicksRiseByAtMost, history, task_at, served}
use Rattle.bq_fairness.specs.Work.{weight_present, weighted_v_at, booked, elapsed, most_lost}
use Rattle.bq_weights.specs.declared.TheConstants.{NICE_0_WEIGHT}

-- the deadline of each task is no earlier than its v, and at most one slice later, as it is at each entry
abbrev pub HasDeadlines : Running → Type 0
HasDeadlines p = All (λ t. (t.v ≤ t.deadline) × (t.deadline ≤ t.v + vdelta_of t.slice t.weight)) (present_at p)

-- If no v is beyond V at the start, no task is ever beyond V or another's deadline by more than one rise at its own weight
abbrev pub NoneIsBeyondADeadline : Type 0
NoneIsBeyondADeadline =
    (V r : ℕ) (p : Running) (nows : List ℕ) →
    AreTasksSound p → HasDeadlines p → All (λ t. t.v ≤ V) (present_at p) → TicksRiseByAtMost r eevdf p nows →
    HasDeadlines (history eevdf p nows)
    × ((i j : ℕ) (u t : Task) → task_at i (history eevdf p nows) ≡ Some u → task_at j (history eevdf p nows) ≡ Some t → u.v ≤ max V t.deadline + vdelta_of r u.weight)

-- The mean never exceeds the greater of V and any task's v plus its slice by more than one rise of each task. So what a
-- task is owed is bounded by its own slice, however many tasks there are
abbrev pub EevdfOwedBySlices : Type 0
EevdfOwedBySlices =
    (V r : ℕ) (p : Running) (nows : List ℕ) (j : ℕ) (b : Task) →
    AreTasksSound p → HasDeadlines p → All (λ t. t.v ≤ V) (present_at p) → TicksRiseByAtMost r eevdf p nows → task_at j (history eevdf p nows) ≡ Some b →
    (let q = history eevdf p nows in weighted_v_at q ≤ weight_present q * max V (b.v + vdelta_of b.slice b.weight) + NICE_0_WEIGHT * r * length (present_at q))

-- Proportional service: of two tasks a and b, a comes to no more virtual time than the sum of three: the greater of where it
-- began and one slice of b's beyond where b began; what b was served; and one rise at a's own weight
abbrev pub EevdfServesBySlices : Type 0
EevdfServesBySlices =
    (r : ℕ) (p : Running) (nows : List ℕ) (i j : ℕ) (a b : Task) →
    AreTasksSound p → HasRoom p → HasDeadlines p → TicksRiseByAtMost r eevdf p nows → task_at i p ≡ Some a → task_at j p ≡ Some b →
    a.v + served i eevdf p nows ≤ served j eevdf p nows + max a.v (b.v + vdelta_of b.slice b.weight) + vdelta_of r a.weight

-- Service by share: what a task is served, times the weights of all, is at least what is booked, except for a bound by its slice
abbrev pub EevdfSharesBySlices : Type 0
EevdfSharesBySlices =
    (V r : ℕ) (p : Running) (nows : List ℕ) (j : ℕ) (b : Task) →
    AreTasksSound p → HasRoom p → HasDeadlines p → All (λ t. t.v ≤ V) (present_at p) → TicksRiseByAtMost r eevdf p nows → task_at j p ≡ Some b →
    weighted_v_at p + booked eevdf p nows ≤ weight_present p * (served j eevdf p nows + max V (b.v + vdelta_of b.slice b.weight)) + NICE_0_WEIGHT * r * length (present_at p)

-- Bounded waiting: as long as a task is served nothing, the clock rises by no more than this
abbrev pub EevdfWaitsBySlices : Type 0
EevdfWaitsBySlices =
    (L S r : ℕ) (p : Running) (nows : List ℕ) (j : ℕ) (b : Task) →
    AreTasksSound p → HasRoom p → HasDeadlines p → All (λ t. (L ≤ t.v) × (t.v ≤ L + S)) (present_at p) → TicksRiseByAtMost r eevdf p nows →
    IsSome p.current → task_at j p ≡ Some b → served j eevdf p nows ≡ 0 →
    NICE_0_WEIGHT * elapsed eevdf p nows ≤ weight_present p * (S + vdelta_of b.slice b.weight) + NICE_0_WEIGHT * r * length (present_at p) + most_lost nows
