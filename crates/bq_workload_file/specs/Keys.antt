-- The keys that mean something in the tables of a document.
use Rattle.std.specs.Prelude.{◌≡◌, ℕ, Bool, List, [], ◌∷◌, Option, Some, None, Result, codes, if◌then◌else◌, option_and_then}
use Rattle.std.specs.Result.{result_err}
use Rattle.std.specs.List.{list_any}
use Rattle.std.specs.Str.{bytes_eq}
use Rattle.toml.specs.Data.{Members, no_members, member}
use Rattle.bq_workload_file.specs.declared.blame.Trouble.{Trouble}
use Rattle.bq_workload_file.specs.declared.blame.Trouble.TheVariants.{At, OutOfMemory}
use Rattle.bq_workload_file.specs.declared.workload_cause.WorkloadCause.{WorkloadCause}
use Rattle.bq_workload_file.specs.declared.workload_cause.WorkloadCause.TheVariants.{UnknownKey}

-- the keys of a document
abbrev pub document_keys : List (List ℕ)
document_keys = codes "machine" ∷ codes "task" ∷ []

-- the keys of its machine
abbrev pub machine_keys : List (List ℕ)
machine_keys = codes "discipline" ∷ codes "processors" ∷ codes "duration" ∷ codes "tick" ∷ codes "balance" ∷ codes "migration_cost" ∷ codes "seed" ∷ []

-- the keys of a kind of tasks
abbrev pub task_keys : List (List ℕ)
task_keys =
    codes "name" ∷ codes "count" ∷ codes "nice" ∷ codes "cpus" ∷ codes "slice" ∷ codes "start" ∷ codes "loops" ∷ codes "run" ∷ codes "sleep" ∷ codes "do" ∷ []

-- a key is one of these words
abbrev pub is_one_of : List (List ℕ) → List ℕ → Bool
is_one_of words key = list_any (λ word. bytes_eq word key) words

-- the first key of a table that is not one of these words
abbrev pub first_unknown : List (List ℕ) → Members → Option (List ℕ)
first_unknown words no_members = None
first_unknown words (member key value more) = if is_one_of words key then first_unknown words more else Some key

-- the key that is reported as unknown
abbrev pub unknown_key : WorkloadCause → Option (List ℕ)
unknown_key (UnknownKey key known) = Some key.now
unknown_key why = None

-- the key that is reported as unknown, with its place
abbrev pub unknown_there : Trouble → Option (List ℕ)
unknown_there (At place why) = unknown_key why
unknown_there OutOfMemory = None

-- a table is refused for this key, which means nothing
abbrev pub IsRefusedFor : {T : Type 0} → List ℕ → Result T Trouble → Type 0
IsRefusedFor key result = option_and_then unknown_there (result_err result) ≡ Some key
