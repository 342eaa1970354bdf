use Rattle.std.proofs.Common.{◌≡◌, map, take, string_bytes}
use Rattle.bq_experiment.specs.Names.{names_of}
use Rattle.bq_experiment.proofs.names.task_names.Given as goal

-- the tasks of this many kinds have their names
abbrev pub invariant-kinds : goal.invariant-kinds
invariant-kinds l = map string_bytes l.names.items ≡ names_of (take l.kind-index l.workload.tasks.items)
