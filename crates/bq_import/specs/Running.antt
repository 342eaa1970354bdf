-- A run of instructions, each of which goes on to the next, that is put in front from its end.
use Rattle.std.specs.Prelude.{◌≡◌, ℕ, ◌+◌, ◌<◌, ◌≤◌, List, length, Option}
use Rattle.bq_insn.specs.declared.Insn.{Insn}
use Rattle.bq_verify.specs.Edges.{IsStart}
use Rattle.bq_import.specs.Backward.{IsBuilt, IsFront, KeepsCopies}
use Rattle.bq_import.specs.Lengths.{run_slots, width_at}
use Rattle.bq_import.specs.Search.{IsNextSlot, IsSlotReady}

-- control goes on from the slot to the next instruction, and so on to the last one; all to which it may go from them is in place
pub record IsRunOfSlots (slots : List (Option Insn)) (places : List (Option ℕ)) (slot last : ℕ) : Type 0 where
  pub begins : slot ≤ last
  pub start : IsStart slots last
  pub onward : (j : ℕ) → slot ≤ j → j < last → IsStart slots j → (next : ℕ) × IsNextSlot slots j next × (next ≤ last)
  pub ready : (j : ℕ) → slot ≤ j → j ≤ last → IsStart slots j → IsSlotReady slots places j
  pub ends : last + run_slots slots last ≡ slot + run_slots slots slot

-- the instruction that begins at the slot, if one does, was put in front
pub record IsPutInFront (maps : ℕ) (old before : List (Option Insn)) (origins : List ℕ) (after : List (Option Insn)) (origins' : List ℕ) (slot : ℕ) : Type 0 where
  pub built : IsBuilt maps old after origins'
  pub keeps : KeepsCopies before origins after origins'
  pub front : IsStart old slot → IsFront after origins' slot
  pub same : (IsStart old slot → ⊥) → (after ≡ before) × (origins' ≡ origins)
  pub grown : length after ≡ length before + width_at old slot

-- if an instruction begins at or after the bound, there is room for what comes before it
pub record HasPlaceBefore (slots : List (Option Insn)) (bound most : ℕ) (back : List (Option Insn)) : Type 0 where
  pub from : ℕ
  pub above : bound ≤ from
  pub start : IsStart slots from
  pub fits : length back + from ≤ most

-- the run up to the last slot is in front, as far down as the bound
pub record IsPutting (maps : ℕ) (old before : List (Option Insn)) (origins : List ℕ) (last bound : ℕ) (after : List (Option Insn)) (origins' : List ℕ) : Type 0 where
  pub built : IsBuilt maps old after origins'
  pub keeps : KeepsCopies before origins after origins'
  pub front : (k : ℕ) → bound ≤ k → k ≤ last → IsStart old k → ((j : ℕ) → bound ≤ j → j < k → IsStart old j → ⊥) → IsFront after origins' k
  pub room : HasPlaceBefore old bound (length before + (last + width_at old last)) after
