-- What a figure is called beside its values: what it is of, the name of its task, and its unit.
use Rattle.std.specs.Prelude.{ℕ, Bool, true, false, List, [], ◌++◌, Option, Some, None, String, codes, if◌then◌else◌, option_and_then, option_map, slice_get, string_bytes, unwrap_or}
use Rattle.std.specs.Fmt.{decimal}
use Rattle.std.specs.declared.alloc.Global.{Global}
use Rattle.bq_hooks.specs.Hooks.{hook_word}
use Rattle.bq_comparison.specs.declared.figure.Figure.{Figure}
use Rattle.bq_comparison.specs.declared.figure.Figure.TheVariants.{Task, Latency, StillWaiting, Processor, Hook}
use Rattle.bq_comparison.specs.declared.figure.ProcessorFigure.TheVariants as of_processor
use Rattle.bq_comparison.specs.declared.figure.TaskFigure.TheVariants as of_task

-- what a figure is of: a task, a processor, or a hook of a processor
abbrev pub subject_text : Figure → List ℕ
subject_text (Task id f) = codes "task " ++ decimal id
subject_text (Latency id f) = codes "task " ++ decimal id
subject_text (StillWaiting id) = codes "task " ++ decimal id
subject_text (Processor processor f) = codes "cpu " ++ decimal processor
subject_text (Hook processor at f) = codes "cpu " ++ (decimal processor ++ (codes " " ++ hook_word at))

-- the task that a figure is of, if it is of one
abbrev pub task_of_figure : Figure → Option ℕ
task_of_figure (Task id f) = Some id
task_of_figure (Latency id f) = Some id
task_of_figure (StillWaiting id) = Some id
task_of_figure (Processor processor f) = None
task_of_figure (Hook processor at f) = None

-- the name of the task that a figure is of, among the names of all tasks; empty if no task is there
abbrev pub name_of_figure : Figure → List (String Global) → List ℕ
name_of_figure figure names =
    unwrap_or (option_map (λ name. string_bytes name) (option_and_then (λ task. slice_get names task) (task_of_figure figure))) []

-- a figure is a time; otherwise it is a count
abbrev pub is_time : Figure → Bool
is_time (Task id of_task.Ran) = true
is_time (Task id of_task.Fair) = true
is_time (Task id of_task.Waited) = true
is_time (Task id f) = false
is_time (Latency id f) = true
is_time (StillWaiting id) = true
is_time (Processor processor of_processor.Switches) = false
is_time (Processor processor f) = true
is_time (Hook processor at f) = false

-- the unit of a figure: nanoseconds, or a count
abbrev pub unit_of_figure : Figure → List ℕ
unit_of_figure figure = if is_time figure then codes "ns" else codes "1"
