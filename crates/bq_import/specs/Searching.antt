-- A search on its way, and one that has come to its end.
use Rattle.std.specs.Prelude.{◌≡◌, ℕ, ◌<◌, [], List, Option}
use Rattle.bq_insn.specs.declared.Insn.{Insn}
use Rattle.bq_import.specs.declared.search.Search.{Search}
use Rattle.bq_import.specs.Budgets.{HasBudget}
use Rattle.bq_import.specs.Search.{IsSearching, KeepsOpen, left_of}

-- a search has come to a state that is right for this program
abbrev pub IsAt : ℕ → List (Option Insn) → Search → Type 0
IsAt maps old search = IsSearching maps old search.copy.slots.items search.copy.origins.items search.places.items search.opens.items search.stack.items

-- nothing is left that was begun
pub record IsDoneWith (maps : ℕ) (old : List (Option Insn)) (search : Search) : Type 0 where
  pub at : IsAt maps old search
  pub none : search.stack.items ≡ []

-- the search went on by one slot
pub record WentOn (maps : ℕ) (old : List (Option Insn)) (before after : Search) : Type 0 where
  pub at : IsAt maps old after
  pub keeps : KeepsOpen before.opens.items after.opens.items
  pub less : left_of after.opens.items after.stack.items < left_of before.opens.items before.stack.items

-- the search writes no more than all runs from landings and this many slots
abbrev pub IsSearchWithin : List (Option Insn) → Search → ℕ → Type 0
IsSearchWithin old search extra = HasBudget old search.copy.slots.items search.copy.origins.items search.places.items search.opens.items search.stack.items extra

-- if the budget sufficed before, it suffices after
abbrev pub KeepsBudget : List (Option Insn) → Search → Search → Type 0
KeepsBudget old before after = (extra : ℕ) → IsSearchWithin old before extra → IsSearchWithin old after extra
