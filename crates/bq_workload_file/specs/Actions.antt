-- What a task does, as values.
use Rattle.std.specs.Prelude.{ℕ, Bool, true, false, List, [], ◌∷◌, ◌++◌, Option, Some, None, option_map, option_and_then, if◌then◌else◌, codes, position, String, string_bytes}
use Rattle.std.specs.Str.{bytes_eq}
use Rattle.std.specs.declared.alloc.Global.{Global}
use Rattle.toml.specs.Data.{Data, Items, no_items, item, as_bool, as_str, as_table}
use Rattle.bq_workload.specs.declared.action.Action.{Action}
use Rattle.bq_workload.specs.declared.action.Action.TheVariants.{Run, Sleep, Wait, Wake}
use Rattle.bq_workload_file.specs.Lengths.{read_length}
use Rattle.bq_workload_file.specs.Tables.{only_of}

-- the place of a name among the tasks' names
abbrev pub named_at : List (String Global) → List ℕ → Option ℕ
named_at names name = position (λ known. bytes_eq (string_bytes known) name) names

-- `wait` is true, and nothing else
abbrev pub waits : Bool → Option Action
waits true = Some Wait
waits false = None

-- `wait` is an action if its value is true
abbrev pub wait_action : Data → Option Action
wait_action d = option_and_then waits (as_bool d)

-- `wake` names a kind of tasks
abbrev pub wake_action : List (String Global) → Data → Option Action
wake_action names d = option_map (λ kind. Wake kind) (option_and_then (named_at names) (as_str d))

-- the action of an entry, by its key
abbrev pub action_of_entry : List (String Global) → List ℕ → Data → Option Action
action_of_entry names key d =
    if bytes_eq key (codes "run") then option_map (λ l. Run l) (read_length d)
    else if bytes_eq key (codes "sleep") then option_map (λ l. Sleep l) (read_length d)
    else if bytes_eq key (codes "wait") then wait_action d
    else if bytes_eq key (codes "wake") then wake_action names d
    else None

-- a table of one entry
abbrev pub action_of : List (String Global) → Data → Option Action
action_of names d = option_and_then (λ (key, value). action_of_entry names key value) (option_and_then only_of (as_table d))

-- the actions read until now, and those of the items
abbrev pub actions_with : List (String Global) → List Action → Items → Option (List Action)
actions_with names done no_items = Some done
actions_with names done (item d ds) = option_and_then (λ a. actions_with names (done ++ a ∷ []) ds) (action_of names d)
