use Rattle.std.proofs.Common.{◌≡◌, ◌≤◌, drop, length}
use Rattle.bq_disc.specs.Totals.{total_weight}
use Rattle.bq_bounds.specs.Lags.{lag_by, mean_at, most_owed_by}
use Rattle.bq_bounds.proofs.stretch.Stretch.most_owed.Given as goal

-- the best is that of the tasks from here on
abbrev pub invariant-loop-at : goal.invariant-loop-at
invariant-loop-at l =
    (l.at ≤ length l.tasks)
    × (l.best ≡ most_owed_by (lag_by l.self (mean_at l.tasks) (length l.tasks) (total_weight l.tasks)) (drop l.at l.tasks))

abbrev pub decreases-loop-at : goal.decreases-loop-at
decreases-loop-at l = l.at
