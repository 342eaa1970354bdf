use Rattle.std.proofs.Common.{◌≡◌, ◌^◌, ◌-◌, min, take}
use Rattle.bq_workload.specs.Bounds.{steps_of_tasks}
use Rattle.bq_workload.specs.Kinds.{tasks_in}
use Rattle.bq_workload.proofs.bound.most_steps.Given as goal

abbrev pub invariant-kinds : goal.invariant-kinds
invariant-kinds l = record {
  units : l.units ≡ min (steps_of_tasks l.workload.tasks.items (take l.kind-index l.workload.tasks.items)) (2 ^ 64 - 1);
  tasks : l.tasks ≡ min (tasks_in (take l.kind-index l.workload.tasks.items)) (2 ^ 64 - 1);
}
