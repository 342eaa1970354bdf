-- The number of tasks that the kinds of a workload have.
use Rattle.std.specs.Prelude.{ℕ, List, slice_get, sum_by}
use Rattle.std.specs.Option.{option_map_or}
use Rattle.bq_workload.specs.declared.workload.TaskKind.{TaskKind}

-- how many tasks the kind of this number has; 0 if there is no such kind
abbrev pub kind_count : List TaskKind → ℕ → ℕ
kind_count kinds number = option_map_or (λ (kind : TaskKind). kind.count) (slice_get kinds number) 0

-- how many tasks all of these kinds have
abbrev pub tasks_in : List TaskKind → ℕ
tasks_in kinds = sum_by (λ (kind : TaskKind). kind.count) kinds
