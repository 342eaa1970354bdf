-- The latencies of tasks, from wake to run.
use Rattle.std.specs.Prelude.{◌≡◌, ℕ, ◌-◌, List, [], ◌∷◌, ◌++◌, length, slice_get, Option, Some, None, unwrap_or}
use Rattle.std.specs.BTreeMap.{is_at}
use Rattle.std.specs.Map.{lookup}
use Rattle.std.specs.Ordering.{nat_cmp}
use Rattle.bq_schedule.specs.declared.change.Start.{Start}
use Rattle.bq_schedule.specs.declared.percentiles.Percentiles.{Percentiles}
use Rattle.bq_schedule.specs.Percentiles.{rank}

-- tasks by their numbers, each with its latencies
abbrev pub Tasks : Type 0
Tasks = List (ℕ × List ℕ)

-- the latencies of one task, in the order in which they came; none if it has none
abbrev pub latencies_of : Tasks → ℕ → List ℕ
latencies_of tasks task = unwrap_or (lookup (is_at (nat_cmp task)) tasks) []

-- each task has the same latencies as before
abbrev pub HaveSameLatencies : Tasks → Tasks → Type 0
HaveSameLatencies old new = (task : ℕ) → latencies_of new task ≡ latencies_of old task

-- a task has one more latency at the end, and every other task has the same as before
pub record HasOneMore (task latency : ℕ) (old new : Tasks) : Type 0 where
  pub own : latencies_of new task ≡ latencies_of old task ++ latency ∷ []
  pub others : (other : ℕ) → ¬ (other ≡ task) → latencies_of new other ≡ latencies_of old other

-- the latency of a task's start is taken, if it has one
abbrev pub TakesLatency : ℕ → Option ℕ → Tasks → Tasks → Type 0
TakesLatency task None old new = HaveSameLatencies old new
TakesLatency task (Some latency) old new = HasOneMore task latency old new

-- the latency of a start is taken, if there is a start and it has one
abbrev pub TakesStart : Option Start → Tasks → Tasks → Type 0
TakesStart None old new = HaveSameLatencies old new
TakesStart (Some start) old new = TakesLatency start.task start.latency old new

-- the 50th, the 95th and the 99th percentile of some sorted numbers, by nearest rank, and the greatest number, which is the last
abbrev pub percentiles_of : List ℕ → Percentiles
percentiles_of sorted = record {
  p50 = slice_get sorted (rank 50 (length sorted));
  p95 = slice_get sorted (rank 95 (length sorted));
  p99 = slice_get sorted (rank 99 (length sorted));
  greatest = slice_get sorted (length sorted - 1);
}
