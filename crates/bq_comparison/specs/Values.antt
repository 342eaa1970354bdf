-- The values of figures.
use Rattle.std.specs.Prelude.{◌≡◌, ℕ, List, Option, Some, IsPermutation, IsSorted}
use Rattle.std.specs.Ordering.{nat_cmp}
use Rattle.bq_hooks.specs.declared.hook.Hook.{Hook}
use Rattle.bq_hooks.specs.declared.hook.Hook.TheVariants as hook
use Rattle.bq_report.specs.Columns.{nearest}
use Rattle.bq_report.specs.Waits.{still_waiting, waited_in_all}
use Rattle.bq_schedule.specs.declared.figures.HookFigures.{HookFigures}
use Rattle.bq_schedule.specs.Figures.{Figures, processor_in_figures, task_in_figures}
use Rattle.bq_schedule.specs.Observed.{observed_time, idle_in}
use Rattle.bq_schedule.specs.Runnable.{fair_of}
use Rattle.bq_schedule.specs.WakeLatencies.{Tasks, latencies_of, percentiles_of}
use Rattle.bq_schedule.specs.declared.percentiles.Percentiles.{Percentiles}
use Rattle.bq_comparison.specs.declared.figure.Figure.{Figure}
use Rattle.bq_comparison.specs.declared.figure.Figure.TheVariants as figure
use Rattle.bq_comparison.specs.declared.figure.HookFigure.{HookFigure}
use Rattle.bq_comparison.specs.declared.figure.HookFigure.TheVariants as of_hook
use Rattle.bq_comparison.specs.declared.figure.LatencyFigure.{LatencyFigure}
use Rattle.bq_comparison.specs.declared.figure.LatencyFigure.TheVariants as of_latency
use Rattle.bq_comparison.specs.declared.figure.ProcessorFigure.{ProcessorFigure}
use Rattle.bq_comparison.specs.declared.figure.ProcessorFigure.TheVariants as of_processor
use Rattle.bq_comparison.specs.declared.figure.TaskFigure.{TaskFigure}
use Rattle.bq_comparison.specs.declared.figure.TaskFigure.TheVariants as of_task

-- the value of a figure of a task
abbrev pub task_value : Figures → ℕ → TaskFigure → ℕ
task_value s id of_task.Ran = (task_in_figures s id).time
task_value s id of_task.Fair = nearest (fair_of s id)
task_value s id of_task.Waited = waited_in_all s id
task_value s id of_task.Switches = (task_in_figures s id).switches
task_value s id of_task.Preemptions = (task_in_figures s id).preemptions
task_value s id of_task.Migrations = (task_in_figures s id).migrations
task_value s id of_task.Wakes = (task_in_figures s id).wakes

-- the value of a figure of a processor
abbrev pub processor_value : Figures → ℕ → ProcessorFigure → ℕ
processor_value s processor of_processor.Busy = (processor_in_figures s processor).busy
processor_value s processor of_processor.Idle = idle_in (observed_time s) (processor_in_figures s processor)
processor_value s processor of_processor.Switches = (processor_in_figures s processor).switches

-- the figures of a hook at a processor
abbrev pub hook_figures : Figures → ℕ → Hook → HookFigures
hook_figures s processor hook.Place = (processor_in_figures s processor).place
hook_figures s processor hook.Preempt = (processor_in_figures s processor).preempt
hook_figures s processor hook.Pull = (processor_in_figures s processor).pull

-- the value of a figure of a hook at a processor
abbrev pub hook_value : Figures → ℕ → Hook → HookFigure → ℕ
hook_value s processor at of_hook.Asked = (hook_figures s processor at).asked
hook_value s processor at of_hook.Overruled = (hook_figures s processor at).overruled
hook_value s processor at of_hook.Steps = (hook_figures s processor at).steps

-- the percentile that is named, of these
abbrev pub percentile_value : Percentiles → LatencyFigure → Option ℕ
percentile_value p of_latency.P50 = p.p50
percentile_value p of_latency.P95 = p.p95
percentile_value p of_latency.P99 = p.p99
percentile_value p of_latency.Greatest = p.greatest

-- a percentile of exactly these numbers, or the greatest of them; nothing if there are no numbers
abbrev pub IsPercentile : LatencyFigure → List ℕ → Option ℕ → Type 0
IsPercentile f xs v = (sorted : List ℕ) × IsPermutation xs sorted × IsSorted nat_cmp sorted × (v ≡ percentile_value (percentiles_of sorted) f)

-- the value of a figure, if it has one
abbrev pub IsFigureValue : Figures → Tasks → Figure → Option ℕ → Type 0
IsFigureValue s tasks (figure.Task id f) v = v ≡ Some (task_value s id f)
IsFigureValue s tasks (figure.Latency id f) v = IsPercentile f (latencies_of tasks id) v
IsFigureValue s tasks (figure.StillWaiting id) v = v ≡ still_waiting s id
IsFigureValue s tasks (figure.Processor processor f) v = v ≡ Some (processor_value s processor f)
IsFigureValue s tasks (figure.Hook processor at f) v = v ≡ Some (hook_value s processor at f)

-- each task has the latencies that it had, in whatever order
abbrev pub AreReordered : Tasks → Tasks → Type 0
AreReordered old new = (task : ℕ) → IsPermutation (latencies_of old task) (latencies_of new task)
