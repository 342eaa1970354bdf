use Rattle.std.proofs.Common.{◌≡◌, ◌++◌, take}
use Rattle.bq_timeline.specs.TasksByName.{tasks_with_names}
use Rattle.bq_timeline.proofs.tasks_by_name.add_tasks_by_name.Given as goal

-- the tasks of this many names stand behind those that were there
abbrev pub invariant-loop-name : goal.invariant-loop-name
invariant-loop-name l = l.tasks.items ≡ l.initial.tasks.items ++ tasks_with_names l.names (take l.name-index l.asked)
