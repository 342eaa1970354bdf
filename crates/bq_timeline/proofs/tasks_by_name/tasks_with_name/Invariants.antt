use Rattle.std.proofs.Common.{◌≡◌}
use Rattle.bq_timeline.specs.TasksByName.{with_name_below}
use Rattle.bq_timeline.proofs.tasks_by_name.tasks_with_name.Given as goal

-- the tasks found so far are those before this one that have a name
abbrev pub invariant-loop-task : goal.invariant-loop-task
invariant-loop-task l = l.tasks.items ≡ with_name_below l.names l.name l.task
