-- The figures of all processors and tasks.
use Rattle.std.specs.Prelude.{ℕ, pos, false, List, replicate, slice_index_or, slice_set, None}
use Rattle.bq_disc.specs.declared.limits.TheConstants.{TASKS}
use Rattle.bq_schedule.specs.declared.figures.TaskFigures.{TaskFigures}
use Rattle.bq_schedule.specs.declared.figures.ProcessorFigures.{ProcessorFigures}
use Rattle.bq_schedule.specs.declared.figures.HookFigures.{HookFigures}

-- the figures of each processor by its number and of each task by its id, and how many events were refused
pub record Figures : Type 0 where
  pub processors : List ProcessorFigures
  pub tasks : List TaskFigures
  pub refused : ℕ

-- the figures of a hook before anything is decided there
abbrev pub unasked_hook : HookFigures
unasked_hook = record { asked = 0; overruled = 0; steps = 0 }

-- the figures of a processor whose clock was never read
abbrev pub unread : ProcessorFigures
unread = record {
  first = None;
  last = 0;
  running = None;
  run = None;
  runnable = 0;
  weight = 0;
  shared = 0;
  unshared = 0;
  busy = 0;
  switches = 0;
  drains = 0;
  place = unasked_hook;
  preempt = unasked_hook;
  pull = unasked_hook;
}

-- the figures of an id that was never admitted
abbrev pub unknown : TaskFigures
unknown = record {
  is_admitted = false;
  nice = pos 0;
  weight = 0;
  processor = None;
  waiting_since = 0;
  woken_at = None;
  drains_when_placed = None;
  last_processor = None;
  shared_at_arrival = 0;
  earlier_fair_time = 0;
  time = 0;
  waited = 0;
  wakes = 0;
  latency_count = 0;
  latency_sum = 0;
  greatest_latency = 0;
  switches = 0;
  preemptions = 0;
  migrations = 0;
}

-- the figures of this many processors before the first event
abbrev pub opening_figures : ℕ → Figures
opening_figures count = record { processors = replicate count unread; tasks = replicate TASKS unknown; refused = 0 }

-- the figures of a processor; if it does not exist, those of one that was never read
abbrev pub processor_in_figures : Figures → ℕ → ProcessorFigures
processor_in_figures s processor = slice_index_or s.processors processor unread

-- the figures of a task; if the id is out of range, those of one that was never admitted
abbrev pub task_in_figures : Figures → ℕ → TaskFigures
task_in_figures s id = slice_index_or s.tasks id unknown

-- the figures with those of one processor replaced
abbrev pub figures_with_processor : Figures → ℕ → ProcessorFigures → Figures
figures_with_processor s processor p = record s { processors = slice_set s.processors processor p }

-- the figures with those of one task replaced
abbrev pub figures_with_task : Figures → ℕ → TaskFigures → Figures
figures_with_task s id t = record s { tasks = slice_set s.tasks id t }
