use Rattle.std.proofs.Common.{◌≡◌, ◌≤◌, drop, length}
use Rattle.bq_bounds.specs.Lags.{heaviest}
use Rattle.bq_bounds.proofs.stretch.heaviest.Given as goal

-- the most is that of the tasks from here on
abbrev pub invariant-loop-at : goal.invariant-loop-at
invariant-loop-at l = (l.at ≤ length l.tasks) × (l.most ≡ heaviest (drop l.at l.tasks))

abbrev pub decreases-loop-at : goal.decreases-loop-at
decreases-loop-at l = l.at
