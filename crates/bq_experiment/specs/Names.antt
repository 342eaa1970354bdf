-- The names of a workload's tasks, and the comments of a trace that tell them.
use Rattle.std.specs.Prelude.{◌≡◌, ℕ, ◌+◌, ◌==◌, ◌||◌, List, [], ◌∷◌, ◌++◌, None, map, flat_map, chars, codes, if◌then◌else◌, string_bytes}
use Rattle.std.specs.Char.{is_ascii_graphic}
use Rattle.std.specs.Fmt.{decimal}
use Rattle.std.specs.List.{range_with_len}
use Rattle.std.proofs.Math.Utf8.{encodes}
use Rattle.bq_workload.specs.declared.workload.TaskKind.{TaskKind}
use Rattle.bq_workload.specs.declared.workload.Workload.{Workload}
use Rattle.bq_report.specs.Names.{Learns, NamedTasks, name_of}
use Rattle.bq_timeline.specs.TasksByName.{shown_letter}

-- the name of a task, by its number among the tasks of its kind: the kind's name, with the number if the kind has several tasks
abbrev pub name_of_task : TaskKind → ℕ → List ℕ
name_of_task kind number = if kind.count == 1 then string_bytes kind.name else string_bytes kind.name ++ (codes "-" ++ decimal number)

-- the names of a kind's tasks
abbrev pub names_of_kind : TaskKind → List (List ℕ)
names_of_kind kind = map (name_of_task kind) (range_with_len 0 kind.count)

-- the names of all tasks, by number
abbrev pub names_of : List TaskKind → List (List ℕ)
names_of kinds = flat_map names_of_kind kinds

-- a letter as a line of a trace can have it: unchanged, or as `?`
abbrev pub plain_of : ℕ → ℕ
plain_of letter = if is_ascii_graphic letter || letter == 32 then letter else 63

-- a name as a line of a trace can have it
abbrev pub plain_name : List ℕ → List ℕ
plain_name name = map plain_of (chars name)

-- a name as a form shows it: a control character becomes `?`
abbrev pub shown_name : List ℕ → List ℕ
shown_name name = encodes (map shown_letter (chars name))

-- the comment that names a task, with its name spelled so
abbrev pub comment_by : (List ℕ → List ℕ) → ℕ → List ℕ → List ℕ
comment_by spell task name = codes "# task " ++ (decimal task ++ (codes " " ++ spell name))

-- the comments that name tasks, numbered from this one on
abbrev pub comments_by : (List ℕ → List ℕ) → ℕ → List (List ℕ) → List (List ℕ)
comments_by spell task [] = []
comments_by spell task (name ∷ names) = comment_by spell task name ∷ comments_by spell (task + 1) names

-- the comment of a trace that names a task
abbrev pub comment_of : ℕ → List ℕ → List ℕ
comment_of = comment_by plain_name

-- the comments that name the tasks from a number on, in letters that a trace can have
abbrev pub comments_from : ℕ → List (List ℕ) → List (List ℕ)
comments_from = comments_by plain_name

-- the comments of a trace that name all tasks of a workload, in order
abbrev pub comments_of : Workload → List (List ℕ)
comments_of w = comments_from 0 (names_of w.tasks.items)

-- the comments that name the tasks to a viewer
abbrev pub shown_comments : Workload → List (List ℕ)
shown_comments w = comments_by shown_name 0 (names_of w.tasks.items)

-- names are learnt from these comments, one after another
abbrev pub LearnsAll : List (List ℕ) → NamedTasks → NamedTasks → Type 0
LearnsAll [] old new = new ≡ old
LearnsAll (comment ∷ more) old new = (mid : NamedTasks) × Learns comment old mid × LearnsAll more mid new

-- the names that the comments for a viewer give to a workload's tasks, of which none had a name before
pub record AreNamesOf (w : Workload) (names : NamedTasks) : Type 0 where
  pub begun : NamedTasks
  pub nobody : (task : ℕ) → name_of begun task ≡ None
  pub learnt : LearnsAll (shown_comments w) begun names
