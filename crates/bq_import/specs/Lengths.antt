-- The most slots of a copy in which each jump goes forward: a run of instructions is copied at most once for each slot where
-- control may come into it.
use Rattle.std.specs.Prelude.{◌≡◌, ℕ, ◌+◌, ◌<◌, ◌⊎◌, ℤ, List, [], ◌∷◌, drop, sum_by, Option, Some, None, if◌then◌else◌}
use Rattle.bq_insn.specs.declared.Insn.{Insn}
use Rattle.bq_insn.specs.Slots.{slots_of}
use Rattle.bq_bpf.specs.Steps.{LeadsTo, instruction_at}
use Rattle.bq_bpf.specs.Instructions.{distance_of, goes_on}
use Rattle.bq_insn.specs.declared.TheConstants.{SLOTS}

-- how many slots there are up to the first instruction from which control does not go on to the next one, with that
abbrev pub run_of : List (Option Insn) → ℕ
run_of [] = 0
run_of (None ∷ slots) = 1 + run_of slots
run_of (Some insn ∷ slots) = if goes_on insn then 1 + run_of slots else 1

-- the slots of the run from that slot
abbrev pub run_slots : List (Option Insn) → ℕ → ℕ
run_slots slots slot = run_of (drop slot slots)

-- the number of slots of an instruction, or 0 without one
abbrev pub width_of_slot : Option Insn → ℕ
width_of_slot None = 0
width_of_slot (Some insn) = slots_of insn

-- the slots of the instruction that begins at the slot; 0 if none does
abbrev pub width_at : List (Option Insn) → ℕ → ℕ
width_at slots slot = width_of_slot (instruction_at slots slot)

-- the instruction at the one slot may jump to the other
pub record IsJump (slots : List (Option Insn)) (from to : ℕ) : Type 0 where
  pub insn : Insn
  pub here : instruction_at slots from ≡ Some insn
  pub distance : ℤ
  pub jumps : distance_of insn ≡ Some distance
  pub leads : LeadsTo from distance to

-- a jump leads to the slot
abbrev pub IsLanding : List (Option Insn) → ℕ → Type 0
IsLanding slots slot = (from : ℕ) × IsJump slots from slot

-- a slot is in a list
abbrev pub IsSlotIn : List ℕ → ℕ → Type 0
IsSlotIn [] slot = ⊥
IsSlotIn (first ∷ rest) slot = (slot ≡ first) ⊎ IsSlotIn rest slot

-- the list has each slot that a jump leads to
abbrev pub HasLandings : List (Option Insn) → List ℕ → Type 0
HasLandings slots landings = (slot : ℕ) → IsLanding slots slot → IsSlotIn landings slot

-- the run from the first slot and those from all slots that jumps lead to have more than `SLOTS` slots together
abbrev pub AreRunsTooLong : List (Option Insn) → Type 0
AreRunsTooLong slots = (landings : List ℕ) → HasLandings slots landings → SLOTS < run_slots slots 0 + sum_by (run_slots slots) landings
