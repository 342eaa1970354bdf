-- Which answers of a policy are permitted. A policy answers by a word, its r0.
use Rattle.std.specs.Prelude.{ℕ, Bool, ◌==◌, ◌||◌, ◌&&◌, nat_lt, List, Option, Some, None, if◌then◌else◌}
use Rattle.bq_disc.specs.Tasks.{Task}
use Rattle.bq_disc.specs.Movable.{is_movable_to}
use Rattle.bq_hooks.specs.Contexts.{nobody}
use Rattle.bq_disc.specs.Masks.{allows}

-- a place policy may name a processor of the task's mask
abbrev pub may_place : ℕ → Task → ℕ → Bool
may_place count t r0 = nat_lt r0 count && allows t.mask r0

-- a preempt policy may answer that the current task stays, or that it gives way
abbrev pub may_preempt : ℕ → Bool
may_preempt r0 = nat_lt r0 2

-- a pull policy may name a task of the other's queue that may go to the puller, shown or not, or nobody
abbrev pub may_pull : ℕ → List Task → ℕ → Bool
may_pull puller queue r0 = r0 == nobody || is_movable_to puller r0 queue

-- the task that a number names: none for nobody
abbrev pub task_numbered : ℕ → Option ℕ
task_numbered n = if n == nobody then None else Some n
