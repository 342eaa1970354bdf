-- Histories of Ticks at one processor where only the discipline decides who gives way, and what each task is served in them.
use Rattle.std.specs.Prelude.{ℕ, ◌+◌, ◌-◌, ◌*◌, ◌≤◌, if◌then◌else◌, List, [], ◌∷◌, Option, All}
use Rattle.std.specs.Option.{option_map_or}
use Rattle.bq_weights.specs.VirtualTime.{vdelta_of}
use Rattle.bq_disc.specs.Tasks.{Task, has_id, find_task}
use Rattle.bq_disc.specs.Discipline.{Discipline}
use Rattle.bq_disc.specs.OneProcessor.{Running, present_at, rise, ticked}
use Rattle.bq_weights.specs.declared.TheConstants.{GREATEST_V, LEAST_WEIGHT, NICE_0_WEIGHT}
use Rattle.bq_disc.specs.declared.clock.TheConstants.{LATEST}

-- the processor after some Ticks, one after another
abbrev pub history : Discipline → Running → List ℕ → Running
history d p [] = p
history d p (now ∷ nows) = history d (ticked d p now) nows

-- the clock rises by at most r at each of the Ticks
abbrev pub TicksRiseByAtMost : ℕ → Discipline → Running → List ℕ → Type 0
TicksRiseByAtMost r d p [] = Unit {0}
TicksRiseByAtMost r d p (now ∷ nows) = (rise p now ≤ r) × TicksRiseByAtMost r d (ticked d p now) nows

-- the present task with this id, if there is one
abbrev pub task_at : ℕ → Running → Option Task
task_at id p = find_task id (present_at p)

-- the virtual time that a Tick charges the task with this id: what the rise takes at its weight, if it runs; else 0
abbrev pub tick_charge : ℕ → Running → ℕ → ℕ
tick_charge id p now = option_map_or (λ t. if has_id id t then vdelta_of (rise p now) t.weight else 0) p.current 0

-- the virtual time that a task is served: the sum of its charges
abbrev pub served : ℕ → Discipline → Running → List ℕ → ℕ
served id d p [] = 0
served id d p (now ∷ nows) = tick_charge id p now + served id d (ticked d p now) nows

-- virtual time does not run out before the clock does: even at the least weight, the rest of the clock takes no task beyond 2^62
abbrev pub HasRoom : Running → Type 0
HasRoom p = All (λ t. LEAST_WEIGHT * t.v + NICE_0_WEIGHT * (LATEST - p.last) ≤ LEAST_WEIGHT * GREATEST_V) (present_at p)
