use Rattle.std.proofs.Common.{◌≡◌, ◌≤◌, drop, length}
use Rattle.bq_disc.specs.Totals.{sums_of, HasBounds}
use Rattle.bq_bounds.proofs.totals.totals.Given as goal

-- the totals are those of the tasks from here on
abbrev pub invariant-loop-at : goal.invariant-loop-at
invariant-loop-at l = record {
  within : l.at ≤ length l.tasks;
  sums : l.totals ≡ sums_of (drop l.at l.tasks);
  bounds : HasBounds l.totals;
}

abbrev pub decreases-loop-at : goal.decreases-loop-at
decreases-loop-at l = l.at
