-- The tasks that have a name, one after another.
use Rattle.std.proofs.Common.{◌≡◌, ◌≢◌, ◌+◌, ℕ, List, [], ◌∷◌, ◌++◌, Bool, true, false, cond, String, Global, ap, append_assoc, sym, refl, ◌∙◌, add-one, append-nil, length}
use Rattle.bq_report.specs.Names.{NamedTasks, name_of}
use Rattle.bq_timeline.specs.TasksByName.{tasks_with_names, with_name_below, is_named, tasks_for_names}

-- no task stands before the first
pub with_name_none : (named : NamedTasks) (name : List ℕ) → [] ≡ with_name_below named name 0
unfolding with_name_below
with_name_none named name = refl

-- a task that has the name stands behind those before it
pub with_name_on : (named : NamedTasks) (name old new : List ℕ) (task : ℕ)
    → is_named name (name_of named task) ≡ true → old ≡ with_name_below named name task → new ≡ old ++ task ∷ []
    → new ≡ with_name_below named name (task + 1)
unfolding with_name_below
with_name_on named name old new task has so_far e =
    e ∙ ap (λ (l : List ℕ). l ++ task ∷ []) so_far
    ∙ ap (λ (b : Bool). with_name_below named name task ++ cond b (task ∷ []) []) (sym has)
    ∙ ap (λ (n : ℕ). with_name_below named name n) (sym (add-one task))

-- a task that does not have the name adds nothing to those before it
pub with_name_off : (named : NamedTasks) (name old : List ℕ) (task : ℕ)
    → is_named name (name_of named task) ≡ false → old ≡ with_name_below named name task
    → old ≡ with_name_below named name (task + 1)
unfolding with_name_below
with_name_off named name old task lacks so_far =
    so_far ∙ sym (append-nil (with_name_below named name task))
    ∙ ap (λ (b : Bool). with_name_below named name task ++ cond b (task ∷ []) []) (sym lacks)
    ∙ ap (λ (n : ℕ). with_name_below named name n) (sym (add-one task))

-- the tasks of some names, and the number that no task has
pub tasks_for_some_names : (named : NamedTasks) (names : List (String Global)) (before now new : List ℕ)
    → length names ≢ 0 → now ≡ before ++ tasks_with_names named names → new ≡ now ++ 65535 ∷ []
    → new ≡ before ++ tasks_for_names named names
tasks_for_some_names named [] before now new some so_far e = absurd (some refl)
tasks_for_some_names named (name ∷ names) before now new some so_far e =
    e ∙ ap (λ (l : List ℕ). l ++ 65535 ∷ []) so_far ∙ append_assoc before (tasks_with_names named (name ∷ names)) (65535 ∷ [])
