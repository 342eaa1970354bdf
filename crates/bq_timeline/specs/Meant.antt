-- The name of a task that was perhaps meant by a name that no task has.
use Rattle.std.specs.Prelude.{ℕ, zero, suc, nat_lt, Bool, false, List, Option, Some, None, if◌then◌else◌, option_and_then}
use Rattle.bq_disc.specs.declared.limits.TheConstants.{TASKS}
use Rattle.bq_report.specs.Names.{NamedTasks, name_of}
use Rattle.bq_words.specs.Nearness.{edits, edits_before, fewer}

-- the name of a task, if it has one, is fewer edits away than this
abbrev pub is_nearer : ℕ → List ℕ → Option (List ℕ) → Bool
is_nearer before name None = false
is_nearer before name (Some known) = nat_lt (edits name known) before

-- how many edits are too many once that name is known
abbrev pub edits_after : ℕ → List ℕ → Option (List ℕ) → ℕ
edits_after before name None = before
edits_after before name (Some known) = fewer before (edits name known)

-- how many edits are too many once the names of the tasks below a number are known
unfoldable pub edits_below : NamedTasks → List ℕ → ℕ → ℕ
edits_below named name zero = edits_before name
edits_below named name (suc task) = edits_after (edits_below named name task) name (name_of named task)

-- the first of the tasks below a number whose names are the nearest, if a name is near
unfoldable pub nearest_below : NamedTasks → List ℕ → ℕ → Option ℕ
nearest_below named name zero = None
nearest_below named name (suc task) =
    if is_nearer (edits_below named name task) name (name_of named task) then Some task else nearest_below named name task

-- the task whose name is the nearest, if a name is near
abbrev pub nearest_task : NamedTasks → List ℕ → Option ℕ
nearest_task named name = nearest_below named name TASKS

-- the name that was perhaps meant: the nearest, if one is near
abbrev pub name_meant : NamedTasks → List ℕ → Option (List ℕ)
name_meant named name = option_and_then (λ task. name_of named task) (nearest_task named name)
