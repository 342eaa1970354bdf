use Rattle.std.proofs.Common.{◌≡◌, ◌++◌, drop}
use Rattle.bq_drawing.specs.Keys.{tasks_shown}
use Rattle.bq_drawing.proofs.drawing.Drawing.tasks_shown.Given as goal

-- the tasks found so far, and those that are left, are all that are shown
abbrev pub invariant-loop-task : goal.invariant-loop-task
invariant-loop-task l = l.tasks.items ++ tasks_shown (drop l.task-index l.all) l.self.tasks ≡ tasks_shown l.all l.self.tasks
