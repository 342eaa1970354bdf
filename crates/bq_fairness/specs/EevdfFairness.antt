-- EEVDF is fair: no task is far ahead of the mean, so none is far behind it.
-- With W the weights of all that are present together and M the sum of weight times v, the mean is M / W. A task is ahead of
-- it by v - M / W, so by (W * v - M) / W; each law is stated times W, without a division. E is how far, times W, the running task may be
-- ahead of the mean.
use Rattle.std.specs.Prelude.{◌≡◌, ℕ, ◌+◌, ◌-◌, ◌*◌, ◌≤◌, true, List, [], ◌∷◌, length, Some, All, IfSome, IsSome}
use Rattle.bq_weights.specs.VirtualTime.{vdelta_of}
use Rattle.bq_disc.specs.Tasks.{Task, without}
use Rattle.bq_disc.specs.Queues.{HasDistinctIds}
use Rattle.bq_disc.specs.OneProcessor.{Running, present_at, ticked, rise}
use Rattle.bq_cfs.specs.Spread.{AreTasksSound}
use Rattle.bq_eevdf.specs.Eevdf.{eevdf, is_eligible}
use Rattle.bq_fairness.specs.Histories.{HasRoom, TicksRiseByAtMost, history, task_at, served}
use Rattle.bq_fairness.specs.Work.{weight_present, weighted_v_at, booked, elapsed, most_lost}
use Rattle.bq_fairness.specs.Steps.{Decide, stepped}
use Rattle.bq_weights.specs.declared.TheConstants.{NICE_0_WEIGHT}

-- the task that runs is eligible
abbrev pub RunsEligible : Running → Type 0
RunsEligible p = IfSome p.current (λ t. is_eligible (present_at p) t ≡ true)

-- the task that runs after a decision is eligible
abbrev pub DecideRunsEligible : Type 0
DecideRunsEligible = (p : Running) → HasDistinctIds (present_at p) → RunsEligible (stepped eevdf p Decide)

-- the task that runs after a Tick, which ends in a decision, is eligible
abbrev pub TickRunsEligible : Type 0
TickRunsEligible = (p : Running) (now : ℕ) → AreTasksSound p → RunsEligible (ticked eevdf p now)

-- how far a task of this weight may come ahead of the mean, times W: E and one rise, less what that rise moves the mean
abbrev pub most_ahead : ℕ → ℕ → ℕ → ℕ → ℕ
most_ahead E r W weight = E + (W - weight) * vdelta_of r weight

-- a balanced processor: the running task is ahead by at most E, and each task by at most E and one rise
pub record IsBalanced (E r : ℕ) (p : Running) : Type 0 where
  pub current : IfSome p.current (λ t. weight_present p * t.v ≤ weighted_v_at p + E)
  pub each : All (λ t. weight_present p * t.v ≤ weighted_v_at p + most_ahead E r (weight_present p) t.weight) (present_at p)

-- a processor is balanced if no task is ahead by more than E
abbrev pub BeginsBalanced : Type 0
BeginsBalanced = (E r : ℕ) (p : Running) → All (λ t. weight_present p * t.v ≤ weighted_v_at p + E) (present_at p) → IsBalanced E r p

-- a Tick at which the clock rises by at most r keeps a processor balanced
abbrev pub StaysBalanced : Type 0
StaysBalanced =
    (E r : ℕ) (p : Running) (now : ℕ) → AreTasksSound p → IsBalanced E r p → rise p now ≤ r →
    AreTasksSound (ticked eevdf p now) × IsBalanced E r (ticked eevdf p now)

-- any number of such Ticks keep a processor balanced
abbrev pub HistoryStaysBalanced : Type 0
HistoryStaysBalanced =
    (E r : ℕ) (p : Running) (nows : List ℕ) → AreTasksSound p → IsBalanced E r p → TicksRiseByAtMost r eevdf p nows →
    AreTasksSound (history eevdf p nows) × IsBalanced E r (history eevdf p nows)

-- the sum of what some tasks may be ahead by, each times its weight
abbrev pub ahead_together : ℕ → ℕ → ℕ → List Task → ℕ
ahead_together E r W [] = 0
ahead_together E r W (t ∷ xs) = t.weight * most_ahead E r W t.weight + ahead_together E r W xs

-- The lags of all add up to 0, so no task is owed more than the others are ahead by together
abbrev pub NoneIsOwedMore : Type 0
NoneIsOwedMore =
    (E r : ℕ) (p : Running) (j : ℕ) (b : Task) → AreTasksSound p → IsBalanced E r p → task_at j p ≡ Some b →
    b.weight * weighted_v_at p ≤ b.weight * (weight_present p * b.v) + ahead_together E r (weight_present p) (without j (present_at p))

-- the most that a task of this weight may be owed, times that weight and W. With n tasks present: E times the others'
-- weight, and NICE_0_WEIGHT * r for n - 2 tasks at weight W and for one at its own weight
abbrev pub most_behind : ℕ → ℕ → Running → ℕ → ℕ
most_behind E r p weight = (weight_present p - weight) * E + NICE_0_WEIGHT * r * ((length (present_at p) - 2) * weight_present p + weight)

-- No task is owed more than `most_behind` says for its weight
abbrev pub NoneIsOwedLong : Type 0
NoneIsOwedLong =
    (E r : ℕ) (p : Running) (j : ℕ) (b : Task) → AreTasksSound p → IsBalanced E r p → task_at j p ≡ Some b →
    b.weight * weighted_v_at p ≤ b.weight * (weight_present p * b.v) + most_behind E r p b.weight

-- the virtual time to which a task comes in a history, times W: its v at the start, and what it is served
abbrev pub comes_to : ℕ → Task → Running → List ℕ → ℕ
comes_to id t p nows = weight_present p * (t.v + served id eevdf p nows)

-- Service by share: what a task is served, times its weight and W, is at least its weight times what is booked, except for
-- what it was ahead of the mean at the start and what a task of its weight may be owed
abbrev pub EevdfServesItsShare : Type 0
EevdfServesItsShare =
    (E r : ℕ) (p : Running) (nows : List ℕ) (j : ℕ) (b : Task) →
    AreTasksSound p → HasRoom p → IsBalanced E r p → TicksRiseByAtMost r eevdf p nows → task_at j p ≡ Some b →
    b.weight * (weighted_v_at p + booked eevdf p nows) ≤ b.weight * comes_to j b p nows + most_behind E r p b.weight

-- Proportional service: of two tasks a and b, a comes beyond b by no more than a may be ahead and b may be owed
abbrev pub EevdfServesInProportion : Type 0
EevdfServesInProportion =
    (E r : ℕ) (p : Running) (nows : List ℕ) (i j : ℕ) (a b : Task) →
    AreTasksSound p → HasRoom p → IsBalanced E r p → TicksRiseByAtMost r eevdf p nows → task_at i p ≡ Some a → task_at j p ≡ Some b →
    b.weight * comes_to i a p nows ≤ b.weight * comes_to j b p nows + b.weight * most_ahead E r (weight_present p) a.weight + most_behind E r p b.weight

-- Bounded waiting: as long as a task is served nothing, the clock rises by no more than this
abbrev pub EevdfWaiting : Type 0
EevdfWaiting =
    (E r : ℕ) (p : Running) (nows : List ℕ) (j : ℕ) (b : Task) →
    AreTasksSound p → HasRoom p → IsBalanced E r p → TicksRiseByAtMost r eevdf p nows → IsSome p.current → task_at j p ≡ Some b → served j eevdf p nows ≡ 0 →
    b.weight * (weighted_v_at p + NICE_0_WEIGHT * elapsed eevdf p nows) ≤ b.weight * (weight_present p * b.v + most_lost nows) + most_behind E r p b.weight
