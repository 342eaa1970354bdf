-- Fair times: what each reading of a clock gives to the tasks that are runnable there.
use Rattle.std.specs.Prelude.{ℕ, ◌*◌, Option, Some, None, if◌then◌else◌}
use Rattle.std.specs.List.{sum_by}
use Rattle.bq_schedule.specs.declared.figures.TaskFigures.{TaskFigures}
use Rattle.bq_schedule.specs.declared.figures.ProcessorFigures.{ProcessorFigures}
use Rattle.bq_schedule.specs.Figures.{Figures, processor_in_figures, task_in_figures}
use Rattle.bq_schedule.specs.Passing.{slice_at, slice_length, parts_per_weight}
use Rattle.bq_schedule.specs.Runnable.{fair_at}
use Rattle.bq_schedule.specs.Slices.{is_this, ShownByAnswer}

-- the weight that a task has at a processor: its own if it is runnable there, otherwise 0
abbrev pub weight_there : ℕ → TaskFigures → ℕ
weight_there processor t = if is_this processor t.processor then t.weight else 0

-- the sum of the weights of all tasks that are runnable at a processor
abbrev pub weights_at : Figures → ℕ → ℕ
weights_at s processor = sum_by (weight_there processor) s.tasks

-- what a reading gives to a task: its weight there, times what the slice gives to each unit of weight
abbrev pub share : Figures → Option ShownByAnswer → ℕ → ℕ
share s None id = 0
share s (Some x) id =
    weight_there x.processor (task_in_figures s id) * parts_per_weight (slice_length (slice_at x.processor (processor_in_figures s x.processor) x.now)) (weights_at s x.processor)

-- the sum of the fair times of all tasks
abbrev pub all_fair : Figures → ℕ
all_fair s = sum_by (λ (t : TaskFigures). fair_at s t t.processor) s.tasks

-- the parts that all processors could not share out
abbrev pub all_unshared : Figures → ℕ
all_unshared s = sum_by (λ (p : ProcessorFigures). p.unshared) s.processors

-- the time in which any task ran, over all processors
abbrev pub all_busy : Figures → ℕ
all_busy s = sum_by (λ (p : ProcessorFigures). p.busy) s.processors
