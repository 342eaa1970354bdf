-- All figures of a report.
use Rattle.std.specs.Prelude.{ℕ, List, [], ◌∷◌, ◌++◌}
use Rattle.std.specs.List.{flat_map, range_with_len}
use Rattle.bq_hooks.specs.declared.hook.Hook.{Hook}
use Rattle.bq_hooks.specs.declared.hook.Hook.TheVariants as hook
use Rattle.bq_comparison.specs.declared.report_figures.MachineSize.{MachineSize}
use Rattle.bq_comparison.specs.declared.figure.Figure.{Figure}
use Rattle.bq_comparison.specs.declared.figure.Figure.TheVariants.{Task, Latency, StillWaiting, Processor, Hook as AtHook}
use Rattle.bq_comparison.specs.declared.figure.HookFigure.TheVariants.{Asked, Overruled, Steps}
use Rattle.bq_comparison.specs.declared.figure.LatencyFigure.TheVariants as of_latency
use Rattle.bq_comparison.specs.declared.figure.ProcessorFigure.TheVariants as of_processor
use Rattle.bq_comparison.specs.declared.figure.TaskFigure.TheVariants as of_task

-- the figures of a task
abbrev pub figures_of_task : ℕ → List Figure
figures_of_task id =
    Task id of_task.Ran ∷ Task id of_task.Fair ∷ Task id of_task.Waited ∷ Task id of_task.Switches ∷ Task id of_task.Preemptions ∷ Task id of_task.Migrations
    ∷ Task id of_task.Wakes ∷ Latency id of_latency.P50 ∷ Latency id of_latency.P95 ∷ Latency id of_latency.P99 ∷ Latency id of_latency.Greatest
    ∷ StillWaiting id ∷ []

-- the figures of a hook at a processor
abbrev pub figures_of_hook : ℕ → Hook → List Figure
figures_of_hook processor at = AtHook processor at Asked ∷ AtHook processor at Overruled ∷ AtHook processor at Steps ∷ []

-- the figures of a processor and its hooks
abbrev pub figures_of_processor : ℕ → List Figure
figures_of_processor processor =
    (Processor processor of_processor.Busy ∷ Processor processor of_processor.Idle ∷ Processor processor of_processor.Switches ∷ [])
    ++ figures_of_hook processor hook.Place ++ figures_of_hook processor hook.Preempt ++ figures_of_hook processor hook.Pull

-- the figures of all tasks and then of all processors, by number
abbrev pub figures_of_report : MachineSize → List Figure
figures_of_report size = flat_map figures_of_task (range_with_len 0 size.tasks) ++ flat_map figures_of_processor (range_with_len 0 size.processors)
