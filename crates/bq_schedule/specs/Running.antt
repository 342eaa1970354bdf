-- Who runs at a processor: a task starts running, and stops.
use Rattle.std.specs.Prelude.{ℕ, ◌-◌, max, Bool, true, false, not, ◌==◌, Option, Some, None, if◌then◌else◌}
use Rattle.std.specs.Option.{option_map}
use Rattle.bq_schedule.specs.declared.change.Start.{Start}
use Rattle.bq_schedule.specs.declared.change.Stop.{Stop}
use Rattle.bq_schedule.specs.declared.change.StopReason.{StopReason}
use Rattle.bq_schedule.specs.declared.change.StopReason.TheVariants.{Preempted, Blocked}
use Rattle.bq_schedule.specs.declared.figures.TaskFigures.{TaskFigures}
use Rattle.bq_schedule.specs.declared.figures.ProcessorFigures.{ProcessorFigures}
use Rattle.bq_disc.specs.Counts.{saturating_sum}
use Rattle.bq_schedule.specs.Figures.{Figures, processor_in_figures, task_in_figures, figures_with_processor, figures_with_task}

-- the task that runs at a processor
abbrev pub running_task : ProcessorFigures → Option ℕ
running_task p = option_map (λ (s : Start). s.task) p.running

-- the running task is this one, or nothing runs if no task is given
abbrev pub is_run_by : Option Start → Option ℕ → Bool
is_run_by None None = true
is_run_by (Some start) (Some id) = start.task == id
is_run_by running run = false

-- the start of a task: how long it has waited, and how long ago its wake ended if it has not run since
abbrev pub start_of : ℕ → ℕ → ℕ → TaskFigures → Start
start_of processor id now t =
    record { processor = processor; task = id; at = now; waited = now - t.waiting_since; latency = option_map (λ (woken : ℕ). now - woken) t.woken_at; before = t.last_processor }

-- the task ran at another processor before
abbrev pub is_elsewhere : Option ℕ → ℕ → Bool
is_elsewhere None processor = false
is_elsewhere (Some before) processor = not (before == processor)

-- the task of this start ran at another processor before
abbrev pub has_migrated : Start → Bool
has_migrated s = is_elsewhere s.before s.processor

-- a task's figures with the latency of a wake counted, if there is one
abbrev pub with_latency : TaskFigures → Option ℕ → TaskFigures
with_latency t None = t
with_latency t (Some n) =
    record t { latency_count = saturating_sum t.latency_count 1; latency_sum = saturating_sum t.latency_sum n; greatest_latency = max t.greatest_latency n }

-- a task's figures after it started running
abbrev pub task_started : TaskFigures → Start → TaskFigures
task_started t s =
    record (with_latency t s.latency) {
      waited = saturating_sum t.waited s.waited;
      woken_at = None;
      drains_when_placed = None;
      last_processor = Some s.processor;
      switches = saturating_sum t.switches 1;
      migrations = saturating_sum t.migrations (if has_migrated s then 1 else 0);
    }

-- a task's figures after it was preempted: it waits from now on
abbrev pub task_preempted : TaskFigures → ℕ → TaskFigures
task_preempted t now = record t { waiting_since = now; preemptions = saturating_sum t.preemptions 1 }

-- the task that ran stops, if there was one: it waits from now on if it was preempted
abbrev pub stopped : StopReason → ℕ → Option Start → Figures → Figures
stopped reason now None s = s
stopped Blocked now (Some start) s = s
stopped Preempted now (Some start) s = figures_with_task s start.task (task_preempted (task_in_figures s start.task) now)

-- the figures after a task started running
abbrev pub figures_begun : ℕ → ℕ → ℕ → Figures → Figures
figures_begun processor now id s = figures_with_task s id (task_started (task_in_figures s id) (start_of processor id now (task_in_figures s id)))

-- the figures after a task started running, if one does
abbrev pub begun_if : ℕ → ℕ → Option ℕ → Figures → Figures
begun_if processor now None s = s
begun_if processor now (Some id) s = figures_begun processor now id s

-- the start of the task that starts running, if one does
abbrev pub starts_as : ℕ → ℕ → Option ℕ → Figures → Option Start
starts_as processor now run s = option_map (λ (id : ℕ). start_of processor id now (task_in_figures s id)) run

-- the processor runs this task from now on, or none
abbrev pub processor_runs : ProcessorFigures → Option Start → ProcessorFigures
processor_runs p None = record p { running = None }
processor_runs p (Some start) = record p { running = Some start; switches = saturating_sum p.switches 1 }

-- the figures after a task started running at a processor, or none did
abbrev pub started : ℕ → ℕ → Option ℕ → Figures → Figures
started processor now run s = figures_with_processor (begun_if processor now run s) processor (processor_runs (processor_in_figures s processor) (starts_as processor now run s))

-- from now on this task runs at a processor, or none does; if it is the one that ran before, nothing changes
abbrev pub figures_switched : StopReason → ℕ → ℕ → Option ℕ → Figures → Figures
figures_switched reason processor now run s =
    let p = processor_in_figures s processor in
    if is_run_by p.running run then s else started processor now run (stopped reason now p.running s)

-- the stop of the task that ran, if there was one
abbrev pub stop_of : StopReason → ℕ → Option Start → Option Stop
stop_of reason now running = option_map (λ (start : Start). record { start = start; at = now; reason = reason }) running

-- the stop that a change of the running task reports, if the task changes
abbrev pub stop_at : StopReason → ℕ → ℕ → Option ℕ → Figures → Option Stop
stop_at reason processor now run s =
    let p = processor_in_figures s processor in
    if is_run_by p.running run then None else stop_of reason now p.running

-- the start that a change of the running task reports, if the task changes
abbrev pub start_at : StopReason → ℕ → ℕ → Option ℕ → Figures → Option Start
start_at reason processor now run s =
    let p = processor_in_figures s processor in
    if is_run_by p.running run then None else starts_as processor now run (stopped reason now p.running s)
