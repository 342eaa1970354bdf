use Rattle.std.proofs.Common.{◌≡◌, ◌^◌, ◌-◌, min, take}
use Rattle.bq_workload.specs.Bounds.{steps_of}
use Rattle.bq_workload.proofs.bound.units_of.Given as goal

abbrev pub invariant-actions : goal.invariant-actions
invariant-actions l = l.units ≡ min (steps_of l.workload.tasks.items (take l.action-index l.actions)) (2 ^ 64 - 1)
