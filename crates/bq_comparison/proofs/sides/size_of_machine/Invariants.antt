use Rattle.std.specs.Prelude.{◌≡◌, min, sum_by, take}
use Rattle.bq_comparison.proofs.sides.size_of_machine.Given as goal

abbrev pub invariant-kinds : goal.invariant-kinds
invariant-kinds l = l.tasks ≡ min (sum_by (λ kind. kind.count) (take l.kind-index l.fn.workload.tasks.items)) 65535
