-- The tasks of a trace, in the order in which they are admitted.
use Rattle.std.specs.Prelude.{ℕ, List, [], ◌∷◌, ◌++◌, ◌==◌, Option, Some, None, position}

-- the place of a task, from 0 on, if it is admitted
abbrev pub admitted_place : List ℕ → ℕ → Option ℕ
admitted_place tasks task = position (λ (other : ℕ). other == task) tasks

-- the tasks with one more at the end, unless it has a place already
abbrev pub or_last : ℕ → List ℕ → Option ℕ → List ℕ
or_last task tasks (Some place) = tasks
or_last task tasks None = tasks ++ (task ∷ [])

-- the tasks after one more is admitted; if it is there already nothing changes
abbrev pub with_admitted : ℕ → List ℕ → List ℕ
with_admitted task tasks = or_last task tasks (admitted_place tasks task)
