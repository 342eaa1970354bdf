-- A clock is read: what the processor's task is charged, how slices make runs, and what each unit of weight is given.
use Rattle.std.specs.Prelude.{ℕ, ◌-◌, ◌*◌, ◌/◌, Bool, ◌==◌, ◌&&◌, nat_lt, Option, Some, None, is_some, if◌then◌else◌}
use Rattle.bq_disc.specs.OneProcessor.{reading}
use Rattle.bq_schedule.specs.declared.slice.Slice.{Slice}
use Rattle.bq_schedule.specs.declared.change.Start.{Start}
use Rattle.bq_schedule.specs.declared.change.ClockReading.{ClockReading}
use Rattle.bq_schedule.specs.declared.figures.TaskFigures.{TaskFigures}
use Rattle.bq_schedule.specs.declared.figures.ProcessorFigures.{ProcessorFigures}
use Rattle.bq_disc.specs.Counts.{saturating_sum}
use Rattle.bq_schedule.specs.Counts.{counted_wide, parts_per_nanosecond}
use Rattle.bq_schedule.specs.Figures.{Figures, processor_in_figures, task_in_figures, figures_with_processor, figures_with_task}

-- the reading of a clock as it counts; the clock goes back if it reads less than the last time
abbrev pub reading_at : ℕ → ProcessorFigures → ℕ → ClockReading
reading_at processor p now = record { processor = processor; previous = p.last; current = reading p.last now; is_back = nat_lt now p.last }

-- the slice of the running task from one reading to another, unless it is empty
abbrev pub slice_between : ℕ → ℕ → ℕ → Option Start → Option Slice
slice_between processor from to None = None
slice_between processor from to (Some start) =
    if nat_lt from to then Some (record { processor = processor; task = start.task; from = from; to = to }) else None

-- the slice that a reading ends at a processor
abbrev pub slice_at : ℕ → ProcessorFigures → ℕ → Option Slice
slice_at processor p now = slice_between processor p.last (reading p.last now) p.running

-- how long a slice is; 0 if there is no slice
abbrev pub slice_length : Option Slice → ℕ
slice_length None = 0
slice_length (Some s) = s.to - s.from

-- a slice continues a run: it is of the same task, and begins where the run ends
abbrev pub continues_run : Slice → Slice → Bool
continues_run run s = run.task == s.task && run.to == s.from

-- the last run, after another slice: the slice continues it, or begins a new one
abbrev pub joined_run : Option Slice → Option Slice → Option Slice
joined_run run None = run
joined_run None (Some s) = Some s
joined_run (Some run) (Some s) = if continues_run run s then Some (record run { to = s.to }) else Some s

-- the run that ends because the next slice does not continue it
abbrev pub ended_run : Option Slice → Option Slice → Option Slice
ended_run run None = None
ended_run None (Some s) = None
ended_run (Some run) (Some s) = if continues_run run s then None else Some run

-- what this many nanoseconds give to each unit of weight, in whole parts; 0 if nothing is runnable
abbrev pub parts_per_weight : ℕ → ℕ → ℕ
parts_per_weight time weight = time * parts_per_nanosecond / weight

-- the clock comes to a reading, and the slice is charged and shared out among the tasks that are runnable
abbrev pub passed : ProcessorFigures → ℕ → Option Slice → ProcessorFigures
passed p to s =
    let part = parts_per_weight (slice_length s) p.weight in
    record p {
      first = (if is_some p.first then p.first else Some to);
      last = to;
      run = joined_run p.run s;
      busy = saturating_sum p.busy (slice_length s);
      shared = counted_wide p.shared part;
      unshared = counted_wide p.unshared (slice_length s * parts_per_nanosecond - p.weight * part);
    }

-- a processor's figures after a reading of its clock
abbrev pub processor_read : ℕ → ProcessorFigures → ℕ → ProcessorFigures
processor_read processor p now = passed p (reading p.last now) (slice_at processor p now)

-- a task's figures after it was charged this length
abbrev pub task_charged : TaskFigures → ℕ → TaskFigures
task_charged t length = record t { time = saturating_sum t.time length }

-- the figures after the slice was added to the time of its task
abbrev pub with_charged : Figures → Option Slice → Figures
with_charged s None = s
with_charged s (Some slice) = figures_with_task s slice.task (task_charged (task_in_figures s slice.task) (slice_length (Some slice)))

-- the figures after a reading of a processor's clock
abbrev pub figures_read : ℕ → ℕ → Figures → Figures
figures_read processor now s =
    let p = processor_in_figures s processor in
    with_charged (figures_with_processor s processor (processor_read processor p now)) (slice_at processor p now)
