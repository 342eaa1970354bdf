-- The rows of a map.
use Rattle.std.specs.Prelude.{List}
use Rattle.bq_schedule.specs.declared.slice.Slice.{Slice}

-- the runs of a processor, in the order in which they came: those of shown tasks, and those of hidden tasks
pub record RunsRow : Type 0 where
  pub shown : List Slice
  pub hidden : List Slice
