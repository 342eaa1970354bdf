-- How tasks come to a processor and leave it: on admission, for sleep, or on the way from one queue to another.
use Rattle.std.specs.Prelude.{ℕ, ◌%◌, ◌^◌, ℤ, pos, Option, Some, None}
use Rattle.std.specs.Option.{option_map}
use Rattle.bq_weights.specs.VirtualTime.{weight_of}
use Rattle.bq_disc.specs.Tasks.{Task, find_task, without, inserted}
use Rattle.bq_disc.specs.Discipline.{Discipline, pulled, left_at}
use Rattle.bq_disc.specs.OneProcessor.{Running, choice_started}

-- a task as it is admitted
abbrev pub admitted : ℕ → ℕ → ℤ → ℕ → ℕ → Task
admitted count id nice mask slice = record { id = id; weight = weight_of nice; mask = mask % 2 ^ count; slice = slice; v = 0; deadline = 0; rel = pos 0; prev = None }

-- what the current task leaves: the queue's choice runs
abbrev pub after_leaving : Discipline → Running → Running
after_leaving d p = choice_started d (record p { current = None })

-- the current task as it leaves for sleep
abbrev pub as_it_leaves : Running → ℕ → Task → Task
as_it_leaves p processor t = record (left_at p.mark t) { prev = Some processor }

-- the task with this id as it leaves a queue, at the mark; None if the queue has no such task
abbrev pub taken_from : Running → Option ℕ → Option Task
taken_from p None = None
taken_from p (Some id) = option_map (left_at p.mark) (find_task id p.queue)

-- the processor without that task
abbrev pub without_task : Running → Option ℕ → Running
without_task p None = p
without_task p (Some id) = record p { queue = without id p.queue }

-- a task from another processor, if there is one, enters
abbrev pub with_pulled : Discipline → Running → Option Task → Running
with_pulled d p None = p
with_pulled d p (Some t) = record p { queue = inserted (pulled d p.mark t) p.queue }

-- if nothing runs, the queue's choice starts to run
abbrev pub started_if_idle : Discipline → Running → Option Task → Running
started_if_idle d p None = choice_started d p
started_if_idle d p (Some t) = p

-- a task from another processor, if there is one, enters; if nothing ran, the queue's choice starts to run
abbrev pub after_pull : Discipline → Running → Running → Option ℕ → Running
after_pull d p other task = started_if_idle d (with_pulled d p (taken_from other task)) p.current
