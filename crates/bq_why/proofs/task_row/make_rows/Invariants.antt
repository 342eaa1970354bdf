use Rattle.std.proofs.Common.{◌≡◌, take, map}
use Rattle.bq_why.specs.Rows.{row_of_task}
use Rattle.bq_why.proofs.task_row.make_rows.Given as goal

-- the rows of the tasks so far
abbrev pub invariant-loop-task : goal.invariant-loop-task
invariant-loop-task l = l.rows.items ≡ map (row_of_task l.tasks) (take l.task-index l.tasks)
