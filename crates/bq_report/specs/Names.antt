-- The names that a trace's comments give to its tasks.
use Rattle.std.specs.Prelude.{◌≡◌, ℕ, ◌^◌, List, ◌++◌, Option, Some, length, position, ◌==◌, codes}
use Rattle.std.specs.BTreeMap.{is_at}
use Rattle.std.specs.Map.{lookup}
use Rattle.std.specs.Ordering.{nat_cmp}
use Rattle.std.specs.Str.{IsTrimAscii, IsUtf8, trim}
use Rattle.bq_words.specs.Numbers.{below, number_in_base}

-- tasks by their numbers, each with its name
abbrev pub NamedTasks : Type 0
NamedTasks = List (ℕ × List ℕ)

-- the name of a task, if it has one
abbrev pub name_of : NamedTasks → ℕ → Option (List ℕ)
name_of names task = lookup (is_at (nat_cmp task)) names

-- the number of a task, of 16 bits, in decimal
abbrev pub task_number : List ℕ → Option ℕ
task_number word = below (2 ^ 16) (number_in_base 10 word)

-- a comment names a task: it is `# task N NAME`, with a space after `task` and after the number. More white space may be around each of
-- these four parts. The name is all that follows the number
pub record IsNaming (comment : List ℕ) (task : ℕ) (name : List ℕ) : Type 0 where
  pub behind_mark : List ℕ
  pub behind_word : List ℕ
  pub number : List ℕ
  pub text : List ℕ
  pub mark : IsTrimAscii comment (codes "#" ++ behind_mark)
  pub word : IsTrimAscii behind_mark (codes "task " ++ behind_word)
  pub parts : IsTrimAscii behind_word (number ++ text)
  pub first_space : position (λ byte. byte == 32) (number ++ text) ≡ Some (length number)
  pub is_number : task_number number ≡ Some task
  pub is_text : IsUtf8 text
  pub is_name : name ≡ trim text

-- if a comment names a task, the task has that name, and every other task has the same name as before
pub record Learns (comment : List ℕ) (old new : NamedTasks) : Type 0 where
  pub named : (task : ℕ) (name : List ℕ) → IsNaming comment task name → name_of new task ≡ Some name
  pub others : (task : ℕ) → ((name : List ℕ) → ¬ (IsNaming comment task name)) → name_of new task ≡ name_of old task
