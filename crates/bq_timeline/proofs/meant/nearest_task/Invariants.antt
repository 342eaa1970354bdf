use Rattle.std.proofs.Common.{◌≡◌}
use Rattle.bq_timeline.specs.Meant.{edits_below, nearest_below}
use Rattle.bq_timeline.proofs.meant.nearest_task.Given as goal

-- the nearest of the names so far, and how many edits a nearer one may not need
abbrev pub invariant-loop-task : goal.invariant-loop-task
invariant-loop-task l =
    (l.near ≡ edits_below l.names l.name l.task) × (l.nearest ≡ nearest_below l.names l.name l.task)
