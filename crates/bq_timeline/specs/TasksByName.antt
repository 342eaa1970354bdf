-- The tasks that are asked for by name.
use Rattle.std.specs.Prelude.{ℕ, zero, suc, ◌^◌, ◌-◌, nat_le, nat_lt, ◌&&◌, ◌||◌, Bool, false, List, [], ◌∷◌, ◌++◌, length, map, take, Option, Some, None, String, if◌then◌else◌, codes, string_bytes}
use Rattle.std.specs.Global.{Global}
use Rattle.std.specs.List.{flat_map}
use Rattle.std.specs.Str.{bytes_eq, chars}
use Rattle.std.proofs.Math.Utf8.{encodes}
use Rattle.bq_disc.specs.declared.limits.TheConstants.{TASKS}
use Rattle.bq_report.specs.Names.{NamedTasks, name_of}
use Rattle.bq_timeline.specs.declared.tasks_by_name.TheConstants.{QUOTED}
use Rattle.bq_timeline.specs.Meant.{name_meant}

-- there is another name, and it equals this one
abbrev pub is_named : List ℕ → Option (List ℕ) → Bool
is_named name None = false
is_named name (Some other) = bytes_eq other name

-- the tasks below a number that have the name, in order
unfoldable pub with_name_below : NamedTasks → List ℕ → ℕ → List ℕ
with_name_below named name zero = []
with_name_below named name (suc task) = with_name_below named name task ++ (if is_named name (name_of named task) then task ∷ [] else [])

-- the tasks that have the name, among the 1,024 that there can be
abbrev pub tasks_with_name : NamedTasks → List ℕ → List ℕ
tasks_with_name named name = with_name_below named name TASKS

-- the tasks that have these names, name after name
abbrev pub tasks_with_names : NamedTasks → List (String Global) → List ℕ
tasks_with_names named names = flat_map (λ name. tasks_with_name named (string_bytes name)) names

-- What names add to the tasks that are shown: the tasks that have them, and a number that no task has. Without that number, names that no
-- task has would leave an empty list, which means every task
abbrev pub tasks_for_names : NamedTasks → List (String Global) → List ℕ
tasks_for_names named [] = []
tasks_for_names named names = tasks_with_names named names ++ (2 ^ 16 - 1) ∷ []

-- a character as a message shows it: `?` for a control character
abbrev pub shown_letter : ℕ → ℕ
shown_letter letter = if nat_lt letter 32 || (nat_le 127 letter && nat_lt letter 160) then 63 else letter

-- a name as a message quotes it: its first 40 characters
abbrev pub quoted_name : List ℕ → List ℕ
quoted_name name = encodes (map shown_letter (take QUOTED (chars name)))

-- the note that no task has this name
abbrev pub lacking_note : List ℕ → List ℕ
lacking_note name = codes "--tasks: no task is called " ++ (quoted_name name ++ codes "\n")

-- the note that no task has this name, but one has a name that is near
abbrev pub near_note : List ℕ → List ℕ → List ℕ
near_note name near = codes "--tasks: no task is called " ++ (quoted_name name ++ (codes "; did you mean " ++ (quoted_name near ++ codes "?\n")))

-- the note that no task has this name, with the name that was perhaps meant, if there is one
abbrev pub meant_note : List ℕ → Option (List ℕ) → List ℕ
meant_note name None = lacking_note name
meant_note name (Some near) = near_note name near

-- the note on a name, if no task has it
abbrev pub unknown_name_note : NamedTasks → List ℕ → List ℕ
unknown_name_note named name = if nat_lt 0 (length (tasks_with_name named name)) then [] else meant_note name (name_meant named name)

-- the notes on the names that no task has
abbrev pub unknown_name_notes : NamedTasks → List (String Global) → List ℕ
unknown_name_notes named names = flat_map (λ name. unknown_name_note named (string_bytes name)) names
