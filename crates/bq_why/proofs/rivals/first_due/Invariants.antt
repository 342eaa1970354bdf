use Rattle.std.proofs.Common.{◌≡◌, ◌≤◌, drop, length}
use Rattle.bq_disc.specs.Tasks.{first_by}
use Rattle.bq_disc.specs.Dues.{due_before}
use Rattle.bq_why.proofs.rivals.first_due.Given as goal

-- the best is that of the tasks from here on
abbrev pub invariant-loop-at : goal.invariant-loop-at
invariant-loop-at l = (l.at ≤ length l.tasks) × (l.best ≡ first_by due_before (drop l.at l.tasks))

abbrev pub decreases-loop-at : goal.decreases-loop-at
decreases-loop-at l = l.at
