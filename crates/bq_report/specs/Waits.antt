-- Waits that still go on when a schedule ends.
use Rattle.std.specs.Prelude.{ℕ, ◌-◌, Option, Some, None, option_and_then, unwrap_or, if◌then◌else◌}
use Rattle.std.specs.Option.{option_map}
use Rattle.bq_disc.specs.Counts.{saturating_sum}
use Rattle.bq_schedule.specs.Figures.{Figures, processor_in_figures, task_in_figures}
use Rattle.bq_schedule.specs.Running.{running_task}
use Rattle.bq_schedule.specs.Slices.{is_this}

-- the last reading of a processor's clock, if a task is runnable at that processor and does not run there
abbrev pub last_unless_running : Figures → ℕ → Option ℕ → Option ℕ
last_unless_running s id None = None
last_unless_running s id (Some p) = if is_this id (running_task (processor_in_figures s p)) then None else Some (processor_in_figures s p).last

-- the last reading of the clock of the processor where a task waits; none if it does not wait
abbrev pub waits_until : Figures → ℕ → Option ℕ
waits_until s id = last_unless_running s id (task_in_figures s id).processor

-- how long the task's current wait has lasted; 0 if the clocks disagree, or if it does not wait
abbrev pub open_wait : Figures → ℕ → ℕ
open_wait s id = unwrap_or (option_map (λ (last : ℕ). last - (task_in_figures s id).waiting_since) (waits_until s id)) 0

-- how long a task has waited in all: the waits that are over, and the current one
abbrev pub waited_in_all : Figures → ℕ → ℕ
waited_in_all s id = saturating_sum (task_in_figures s id).waited (open_wait s id)

-- how long ago the task's last wake ended, if the task has not run since and waits
abbrev pub still_waiting : Figures → ℕ → Option ℕ
still_waiting s id = option_and_then (λ (last : ℕ). option_map (λ (at : ℕ). last - at) (task_in_figures s id).woken_at) (waits_until s id)
