-- EEVDF: no task is owed more than the bound that is shown beside it.
use Rattle.std.specs.Prelude.{◌≡◌, ℕ, ◌≤◌, List, [], ◌∷◌, length, Some}
use Rattle.bq_disc.specs.Tasks.{Task}
use Rattle.bq_disc.specs.OneProcessor.{Running, present_at}
use Rattle.bq_cfs.specs.Spread.{AreTasksSound}
use Rattle.bq_eevdf.specs.Eevdf.{eevdf}
use Rattle.bq_fairness.specs.Histories.{task_at}
use Rattle.bq_fairness.specs.Steps.{ProcessorStep, Pass, Decide, Enter, Leave, Mark, after_steps, DecidesWithin}
use Rattle.bq_fairness.specs.Work.{weight_present}
use Rattle.bq_bounds.specs.Lags.{mean_at, furthest, owed, owed_at_most}

-- in this step no task comes or goes
abbrev pub KeepsTasks : ProcessorStep → Type 0
KeepsTasks (Pass now) = Unit {0}
KeepsTasks Decide = Unit {0}
KeepsTasks (Enter t) = ⊥
KeepsTasks (Leave id) = ⊥
KeepsTasks Mark = Unit {0}

-- in these steps no task comes or goes
abbrev pub KeepsAll : List ProcessorStep → Type 0
KeepsAll [] = Unit {0}
KeepsAll (s ∷ ss) = KeepsTasks s × KeepsAll ss

-- From some moment on no task comes or goes, and the clock rises by at most r between two decisions of the discipline. Then no task is
-- owed more than this bound: n - 2 rises, its own share of one rise, and the time that the furthest task's lead at that moment takes at
-- the weight of the other tasks
abbrev pub EevdfOwesWithin : Type 0
EevdfOwesWithin =
    (r : ℕ) (p : Running) (ss : List ProcessorStep) (j : ℕ) (b : Task) → AreTasksSound p → KeepsAll ss → DecidesWithin r eevdf 0 p ss →
    (let q = after_steps eevdf p ss in task_at j q ≡ Some b →
    owed (mean_at (present_at q)) b ≤ owed_at_most (furthest (mean_at (present_at p)) (present_at p)) r (length (present_at q)) (weight_present q) b.weight)
