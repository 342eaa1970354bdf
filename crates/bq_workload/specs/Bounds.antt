-- The most steps that a simulation takes.
use Rattle.std.specs.Prelude.{ℕ, ◌+◌, ◌*◌, ◌-◌, ◌^◌, List, min, sum_by}
use Rattle.bq_workload.specs.declared.action.Action.{Action}
use Rattle.bq_workload.specs.declared.action.Action.TheVariants.{Wake}
use Rattle.bq_workload.specs.declared.workload.TaskKind.{TaskKind}
use Rattle.bq_workload.specs.declared.workload.Workload.{Workload}
use Rattle.bq_words.specs.Sizes.{processors_in}
use Rattle.bq_workload.specs.Kinds.{kind_count, tasks_in}

-- the steps of one action: a wake takes a step for each task that it comes to
abbrev pub steps_for : List TaskKind → Action → ℕ
steps_for kinds (Wake kind) = kind_count kinds kind
steps_for kinds action = 1

-- the steps of one round of a task's actions, and one step for the task's end
abbrev pub steps_of : List TaskKind → List Action → ℕ
steps_of kinds actions = 1 + sum_by (steps_for kinds) actions

-- the steps of all tasks of some kinds
abbrev pub steps_of_tasks : List TaskKind → List TaskKind → ℕ
steps_of_tasks kinds some = sum_by (λ (kind : TaskKind). kind.count * steps_of kinds kind.actions.items) some

-- the steps of one instant: twice all that the tasks do, since each step may leave a processor idle, which then looks for a task;
-- the timer of each task; and a tick and a look for a task of each processor
abbrev pub steps_at_once : Workload → ℕ
steps_at_once w = steps_of_tasks w.tasks.items w.tasks.items * 2 + tasks_in w.tasks.items + processors_in w.machine.size * 2

-- the steps of all instants, of which there is one for each nanosecond and one more; at most what 64 bits count
abbrev pub most_steps : Workload → ℕ
most_steps w = min ((w.machine.duration + 1) * steps_at_once w) (2 ^ 64 - 1)
