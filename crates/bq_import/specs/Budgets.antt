-- The number of slots that the search may still write: for each slot to which a jump leads, the slots of a run.
use Rattle.std.specs.Prelude.{◌≡◌, ℕ, ◌+◌, ◌≤◌, ◌⊎◌, Bool, List, [], ◌∷◌, reverse, length, sum_by, Option, if◌then◌else◌}
use Rattle.bq_insn.specs.declared.Insn.{Insn}
use Rattle.bq_import.specs.Lengths.{HasLandings, run_slots, width_at}
use Rattle.bq_import.specs.Search.{IsLastOf, IsSlotReady, Suffices, is_open}

-- the slots are shared out: some are for the one, and more for the rest
pub record IsShared (Own Rest : ℕ → Type 0) (slots : ℕ) : Type 0 where
  pub own : ℕ
  pub more : ℕ
  pub all : slots ≡ own + more
  pub enough : Own own
  pub rest : Rest more

-- enough for a slot from which the one above it was begun
abbrev pub IsKeptFor : List (Option Insn) → List (Option ℕ) → ℕ → ℕ → ℕ → Type 0
IsKeptFor old places above slot own = (run_slots old slot ≤ own) ⊎ ((width_at old slot ≤ own) × IsLastOf old places slot above)

-- enough for the slots that were begun before the one above them, the last one first
abbrev pub AreKeptFor : List (Option Insn) → List (Option ℕ) → ℕ → List ℕ → ℕ → Type 0
AreKeptFor old places above [] kept = Unit {0}
AreKeptFor old places above (slot ∷ rest) kept = IsShared (IsKeptFor old places above slot) (AreKeptFor old places slot rest) kept

-- enough for the slot that was begun last
abbrev pub IsKeptForLast : List (Option Insn) → List (Option Insn) → List ℕ → List (Option ℕ) → ℕ → ℕ → Type 0
IsKeptForLast old back origins places slot own = (run_slots old slot ≤ own) ⊎ (IsSlotReady old places slot × Suffices old back origins slot own)

-- enough for all slots that were begun, the last one first
abbrev pub IsBudgetKept : List (Option Insn) → List (Option Insn) → List ℕ → List (Option ℕ) → List ℕ → ℕ → Type 0
IsBudgetKept old back origins places [] kept = Unit {0}
IsBudgetKept old back origins places (slot ∷ rest) kept = IsShared (IsKeptForLast old back origins places slot) (AreKeptFor old places slot rest) kept

-- the run of a slot that was not begun
abbrev pub waiting : List (Option Insn) → List Bool → ℕ → ℕ
waiting old opens slot = if is_open opens slot then 0 else run_slots old slot

-- the copy, what is kept for the slots that were begun, and the runs of landings that were not: no more than all runs of landings and some slots
pub record HasBudget (old back : List (Option Insn)) (origins : List ℕ) (places : List (Option ℕ)) (opens : List Bool) (stack : List ℕ) (extra : ℕ) : Type 0 where
  pub kept : ℕ
  pub is_kept : IsBudgetKept old back origins places (reverse stack) kept
  pub fits : (landings : List ℕ) → HasLandings old landings → length back + kept + sum_by (waiting old opens) landings ≤ extra + sum_by (run_slots old) landings
