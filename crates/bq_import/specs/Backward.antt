-- A copy that is written from its end: slots in the order from the last to the first, so that what is written is never moved.
use Rattle.std.specs.Prelude.{◌≡◌, ℕ, ◌+◌, ◌≤◌, ◌⊎◌, ℤ, pos, true, List, reverse, length, Option, Some}
use Rattle.std.specs.List.{filter_map, list_all}
use Rattle.bq_insn.specs.declared.Insn.{Insn}
use Rattle.bq_insn.specs.Slots.{slots_of, spread}
use Rattle.bq_insn.specs.Spelling.{is_insn}
use Rattle.bq_insn.specs.Laws.{Fits, AllFit}
use Rattle.bq_bpf.specs.Steps.{LeadsTo, instruction_at}
use Rattle.bq_bpf.specs.Instructions.{distance_of, goes_on}
use Rattle.bq_verify.specs.Edges.{IsStart}
use Rattle.bq_import.specs.Copies.{copied, IsCopyOfSlot}

-- registers, widths and numbers of each instruction are in range
abbrev pub AreGood : List (Option Insn) → Type 0
AreGood slots = (slot : ℕ) (insn : Insn) → instruction_at slots slot ≡ Some insn → (is_insn insn ≡ true) × Fits insn

-- the jump goes from this number of slots before the end to a copy of its target, which lies behind
pub record JumpsBack (back : List (Option Insn)) (origins : List ℕ) (from place : ℕ) (far near : ℤ) : Type 0 where
  pub target : ℕ
  pub landing : ℕ
  pub apart : ℕ
  pub leads : LeadsTo from far target
  pub near_is : near ≡ pos apart
  pub place_is : place ≡ landing + 1 + apart
  pub stands : IsCopyOfSlot back origins landing target

-- the instruction after this one lies right after it in the program
pub record GoesBack (back : List (Option Insn)) (origins : List ℕ) (place slots next : ℕ) : Type 0 where
  pub behind : ℕ
  pub place_is : place ≡ behind + slots
  pub stands : IsCopyOfSlot back origins behind next

-- a place of the copy has the copy of the instruction at a slot of the program, and control goes on from it to copies of where
-- it goes on there
pub record IsPlacedCopy (maps : ℕ) (old back : List (Option Insn)) (origins : List ℕ) (place from : ℕ) : Type 0 where
  pub original : Insn
  pub distance : ℤ
  pub here : instruction_at old from ≡ Some original
  pub copy : instruction_at back place ≡ Some (copied maps original distance)
  pub on : goes_on original ≡ true → GoesBack back origins place (slots_of original) (from + slots_of original)
  pub jumps : (far : ℤ) → distance_of original ≡ Some far → JumpsBack back origins from place far distance

-- the instructions, first to last
abbrev pub insns_of : List (Option Insn) → List Insn
insns_of back = filter_map (λ slot. slot) (reverse back)

-- each instruction is a copy, and goes on to copies; and they are a program
pub record IsBuilt (maps : ℕ) (old back : List (Option Insn)) (origins : List ℕ) : Type 0 where
  pub as_long : length origins ≡ length back
  pub short : length back ≤ 4096
  pub placed : (place from : ℕ) → IsCopyOfSlot back origins place from → IsPlacedCopy maps old back origins place from
  pub spread_is : spread (insns_of back) ≡ reverse back
  pub in_range : list_all is_insn (insns_of back) ≡ true
  pub fit : AllFit (insns_of back)
  pub front : (place : ℕ) → length back ≡ place + 1 → IsStart back place

-- each copy that was at a place is still there
abbrev pub KeepsCopies : List (Option Insn) → List ℕ → List (Option Insn) → List ℕ → Type 0
KeepsCopies old origins new origins' = (place from : ℕ) → IsCopyOfSlot old origins place from → IsCopyOfSlot new origins' place from

-- the first instruction of the copy until now is a copy of the one at this slot
pub record IsFront (back : List (Option Insn)) (origins : List ℕ) (from : ℕ) : Type 0 where
  pub place : ℕ
  pub place_is : length back ≡ place + 1
  pub stands : IsCopyOfSlot back origins place from

-- the copy has one more instruction in front: that of this slot
pub record IsLengthened (maps : ℕ) (old before : List (Option Insn)) (origins : List ℕ) (after : List (Option Insn)) (origins' : List ℕ) (from : ℕ) : Type 0 where
  pub built : IsBuilt maps old after origins'
  pub keeps : KeepsCopies before origins after origins'
  pub front : IsFront after origins' from

-- the copy has what it had, and one instruction in front
pub record IsOneMore (before : List (Option Insn)) (origins : List ℕ) (after : List (Option Insn)) (origins' : List ℕ) (from : ℕ) : Type 0 where
  pub only : (place slot : ℕ) → IsCopyOfSlot after origins' place slot → IsCopyOfSlot before origins place slot ⊎ ((length after ≡ place + 1) × (slot ≡ from))

-- the instruction may be put in front with this distance
pub record MayBePut (old back : List (Option Insn)) (origins : List ℕ) (from : ℕ) (insn : Insn) (distance : ℤ) : Type 0 where
  pub here : instruction_at old from ≡ Some insn
  pub on : goes_on insn ≡ true → IsFront back origins (from + slots_of insn)
  pub jumps : (far : ℤ) → distance_of insn ≡ Some far → JumpsBack back origins from (length back) far distance
