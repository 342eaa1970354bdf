-- Orders in which control goes only forward, and how long the copy is that has the instructions in such an order.
use Rattle.std.specs.Prelude.{ℕ, ◌+◌, ◌<◌, Bool, false, nat_eq, List, [], ◌∷◌, Option, if◌then◌else◌}
use Rattle.bq_insn.specs.declared.Insn.{Insn}
use Rattle.bq_verify.specs.Edges.{IsEdge, IsStart}
use Rattle.bq_verify.specs.Paths.{Path}
use Rattle.bq_import.specs.Lengths.{IsSlotIn, run_slots, width_at}
use Rattle.bq_insn.specs.declared.TheConstants.{SLOTS}

-- control comes to each instruction of the list, and goes from it only to later ones of the list; none comes twice
abbrev pub IsForwardOrder : List (Option Insn) → List ℕ → Type 0
IsForwardOrder slots [] = Unit {0}
IsForwardOrder slots (slot ∷ later) =
    IsStart slots slot × Path slots 0 slot × (IsSlotIn later slot → ⊥) × ((to : ℕ) → IsEdge slots slot to → IsSlotIn later to) × IsForwardOrder slots later

-- a list begins with a slot
abbrev pub begins_with : List ℕ → ℕ → Bool
begins_with [] slot = false
begins_with (first ∷ rest) slot = nat_eq first slot

-- what an instruction takes in front of later ones: its own slots if these begin with the next instruction, and else its whole run
abbrev pub slots_in_front : List (Option Insn) → ℕ → List ℕ → ℕ
slots_in_front slots slot later = if begins_with later (slot + width_at slots slot) then width_at slots slot else run_slots slots slot

-- the slots of the copy that has the instructions in this order
abbrev pub copy_length : List (Option Insn) → List ℕ → ℕ
copy_length slots [] = 0
copy_length slots (slot ∷ later) = slots_in_front slots slot later + copy_length slots later

-- the copy in some forward order takes more than `SLOTS` slots
pub record HasLongOrder (slots : List (Option Insn)) : Type 0 where
  pub order : List ℕ
  pub forward : IsForwardOrder slots order
  pub long : SLOTS < copy_length slots order
