-- One processor by itself: the task that runs, the queue, the mark and the clock; how its time passes, and who runs next.
-- The choices are those of sched-design-CFS.rst and sched-eevdf.rst; marks, entries and exchanges are this project's own.
use Rattle.std.specs.Prelude.{ℕ, ◌-◌, min, max, Bool, false, List, [], ◌∷◌, Option, Some, None, if◌then◌else◌}
use Rattle.std.specs.Option.{option_map}
use Rattle.bq_disc.specs.Tasks.{Task, find_task, without, inserted, present, id_of}
use Rattle.bq_disc.specs.Discipline.{Discipline, charged, woken, next_of}
use Rattle.bq_disc.specs.declared.limits.TheConstants.{FIRST_MARK}
use Rattle.bq_disc.specs.declared.clock.TheConstants.{LATEST}

-- the queue, the mark as it was last computed, the task that runs, and the last reading of the clock
pub record Running : Type 0 where
  pub queue : List Task
  pub mark : ℕ
  pub current : Option Task
  pub last : ℕ

-- a processor to which nothing has come yet; its mark is the first
abbrev pub at_rest : Running
at_rest = record { queue = []; mark = FIRST_MARK; current = None; last = 0 }

-- the tasks that run or wait in the queue
abbrev pub present_at : Running → List Task
present_at p = present p.current p.queue

-- what a reading counts as: at most 2^48 - 1, and no less than the last reading
abbrev pub reading : ℕ → ℕ → ℕ
reading last now = max last (min now LATEST)

-- the processor with its mark computed again over the tasks present
abbrev pub marked : Discipline → Running → Running
marked d p = record p { mark = d.mark p.mark (present_at p) }

-- Charge: the current task has run since the last reading, and the mark is computed again
abbrev pub charge : Discipline → Running → ℕ → Running
charge d p now =
    let at = reading p.last now in
    marked d (record p { last = at; current = option_map (λ t. charged d t (at - p.last)) p.current })

-- the task with this id leaves the queue and runs
abbrev pub run_id : Running → Option ℕ → Running
run_id p None = p
run_id p (Some id) = record p { current = find_task id p.queue; queue = without id p.queue }

-- the queue's choice runs
abbrev pub choice_started : Discipline → Running → Running
choice_started d p = run_id p (id_of (d.choice p.queue))

-- the current task goes to the queue, and the new one runs in its place; no v and no deadline changes
abbrev pub exchanged : Running → Task → Option Task → Running
exchanged p old None = p
exchanged p old (Some new) = record p { current = Some new; queue = inserted old (without new.id p.queue) }

-- the current task and the next one change places, unless they are one and the same
abbrev pub switched : Discipline → Running → Option Task → Running
switched d p None = p
switched d p (Some current) = exchanged p current (find_task (next_of d current p.queue) p.queue)

-- Decide: if nothing runs, the queue's choice runs; else `gives_way` says whether the current task gives way
abbrev pub decided : Discipline → Running → Option Task → Bool → Running
decided d p None gives_way = choice_started d p
decided d p (Some current) gives_way = if gives_way then switched d p (Some current) else p

-- the discipline's own answer to whether the current task gives way
abbrev pub own_preempt : Discipline → List Task → Option Task → Bool
own_preempt d queue None = false
own_preempt d queue (Some current) = d.wants_preempt current queue

-- the queue after woken tasks have entered it one after another, at this mark
abbrev pub entered : Discipline → ℕ → List Task → List Task → List Task
entered d mark queue [] = queue
entered d mark queue (t ∷ tasks) = entered d mark (inserted (woken d mark t) queue) tasks

-- the processor after some tasks have entered its queue in their order, at the mark
abbrev pub enter_all : Discipline → Running → List Task → Running
enter_all d p tasks = record p { queue = entered d p.mark p.queue tasks }

-- how far a reading moves the clock forward
abbrev pub rise : Running → ℕ → ℕ
rise p now = reading p.last now - p.last

-- Tick: the time since the last reading is charged, and the discipline's own answer says whether the current task gives way
abbrev pub ticked : Discipline → Running → ℕ → Running
ticked d p now = let c = charge d p now in decided d c c.current (own_preempt d c.queue c.current)
