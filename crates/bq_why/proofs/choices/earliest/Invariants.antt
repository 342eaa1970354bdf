use Rattle.std.proofs.Common.{◌≡◌, ◌≤◌, drop, length}
use Rattle.std.specs.Prelude.{filter}
use Rattle.bq_disc.specs.Tasks.{first_by}
use Rattle.bq_disc.specs.Dues.{due_before}
use Rattle.bq_disc.specs.Totals.{is_at_most_mean}
use Rattle.bq_why.proofs.choices.earliest.Given as goal

-- the best is that of the tasks from here on
abbrev pub invariant-loop-at : goal.invariant-loop-at
invariant-loop-at l =
    (l.at ≤ length l.tasks) × (l.best ≡ first_by due_before (filter (is_at_most_mean l.weight l.weighted_sum) (drop l.at l.tasks)))

abbrev pub decreases-loop-at : goal.decreases-loop-at
decreases-loop-at l = l.at
