-- Taking the task at some (v, id) out of a list.
use Rattle.std.specs.Prelude.{◌≡◌, ℕ, Bool, false, ◌&&◌, ◌==◌, List, ◌∷◌, ◌++◌, Option, Some, None}
use Rattle.std.specs.List.{AllByRecursion}
use Rattle.bq_disc.specs.Tasks.{Task}

-- whether a task is the one at (v, id)
abbrev pub is_task_at : ℕ → ℕ → Task → Bool
is_task_at v id t = t.v == v && t.id == id

-- no task of the list is at (v, id)
abbrev pub IsAbsent : ℕ → ℕ → List Task → Type 0
IsAbsent v id xs = AllByRecursion (λ (t : Task). is_task_at v id t ≡ false) xs

-- the task at (v, id) is taken out of the list `all`, and `rest` remains; if none is there, `rest` is all of it
abbrev pub TakesOut : ℕ → ℕ → List Task → Option Task → List Task → Type 0
TakesOut v id all None rest = IsAbsent v id all × (rest ≡ all)
TakesOut v id all (Some t) rest =
    (before : List Task) × (after : List Task) × (t.v ≡ v) × (t.id ≡ id) × (all ≡ before ++ t ∷ after) × (rest ≡ before ++ after)

-- the task at (v, id) is found in the list; nothing is found if none is there
abbrev pub FindsTask : ℕ → ℕ → List Task → Option Task → Type 0
FindsTask v id all None = IsAbsent v id all
FindsTask v id all (Some t) =
    (before : List Task) × (after : List Task) × (t.v ≡ v) × (t.id ≡ id) × (all ≡ before ++ t ∷ after)
