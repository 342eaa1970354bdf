-- Where a task is runnable: it comes to a processor, and leaves it. In between it gets its share of what is shared out there.
use Rattle.std.specs.Prelude.{ℕ, ◌-◌, ◌*◌, ◌^◌, min, ◌==◌, Option, Some, None, if◌then◌else◌}
use Rattle.bq_schedule.specs.declared.figures.TaskFigures.{TaskFigures}
use Rattle.bq_schedule.specs.declared.figures.ProcessorFigures.{ProcessorFigures}
use Rattle.bq_disc.specs.Counts.{saturating_sum}
use Rattle.bq_schedule.specs.Counts.{counted_wide}
use Rattle.bq_schedule.specs.Figures.{Figures, processor_in_figures, task_in_figures, figures_with_processor, figures_with_task}

-- the share that a task has had at its processor since it came
abbrev pub pending : ProcessorFigures → TaskFigures → ℕ
pending p t = min (t.weight * (p.shared - t.shared_at_arrival)) (2 ^ 128 - 1)

-- the fair time of a task, in parts: what it got at all processors where it was before, and what it got where it is
abbrev pub fair_at : Figures → TaskFigures → Option ℕ → ℕ
fair_at s t None = t.earlier_fair_time
fair_at s t (Some processor) = counted_wide t.earlier_fair_time (pending (processor_in_figures s processor) t)

-- the fair time of the task with this id, in parts
abbrev pub fair_of : Figures → ℕ → ℕ
fair_of s id = let t = task_in_figures s id in fair_at s t t.processor

-- the processor on which a task was placed, if that processor has made no more drains since
abbrev pub undrained_at : Figures → Option ℕ → Option ℕ → Option ℕ
undrained_at s (Some processor) (Some drains) = if (processor_in_figures s processor).drains == drains then Some processor else None
undrained_at s processor drains = None

-- the processor on which the task with this id was placed, if that processor has not drained its inbox since
abbrev pub undrained : Figures → ℕ → Option ℕ
undrained s id = let t = task_in_figures s id in undrained_at s t.processor t.drains_when_placed

-- a processor's figures after a task of this weight left
abbrev pub processor_left : ProcessorFigures → ℕ → ProcessorFigures
processor_left p weight = record p { runnable = p.runnable - 1; weight = p.weight - weight }

-- a processor's figures after a task of this weight came
abbrev pub processor_joined : ProcessorFigures → ℕ → ProcessorFigures
processor_joined p weight = record p { runnable = saturating_sum p.runnable 1; weight = saturating_sum p.weight weight }

-- a task is no longer runnable, if it was runnable at this processor
abbrev pub left_from : ℕ → Figures → Option ℕ → Figures
left_from id s None = s
left_from id s (Some processor) =
    let t = task_in_figures s id in
    figures_with_task (figures_with_processor s processor (processor_left (processor_in_figures s processor) t.weight)) id
    (record t { earlier_fair_time = fair_at s t (Some processor); processor = None; drains_when_placed = None })

-- a task is no longer runnable, if it was
abbrev pub figures_left : ℕ → Figures → Figures
figures_left id s = left_from id s (task_in_figures s id).processor

-- a task that is not runnable becomes runnable here now, and waits
abbrev pub joins : ℕ → ℕ → ℕ → Figures → Figures
joins id processor now s =
    let t = task_in_figures s id in
    let p = processor_in_figures s processor in
    figures_with_task (figures_with_processor s processor (processor_joined p t.weight)) id
    (record t { processor = Some processor; waiting_since = now; shared_at_arrival = p.shared })

-- a task becomes runnable here, and nowhere else
abbrev pub comes : ℕ → ℕ → ℕ → Figures → Figures
comes id processor now s = joins id processor now (figures_left id s)
