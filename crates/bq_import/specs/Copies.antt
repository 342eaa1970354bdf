-- One program is a copy of another: its instructions are in another order, some of them several times, and each goes on to
-- copies of where its original goes on to.
use Rattle.std.specs.Prelude.{◌≡◌, ℕ, ◌+◌, ◌-◌, ◌<◌, ℤ, pos, Bool, true, false, ◌&&◌, nat_lt, nat_le, List, Option, Some, map, slice_index}
use Rattle.bq_insn.specs.declared.Insn.{Insn}
use Rattle.bq_insn.specs.declared.Insn.TheVariants.{Imm64, MapRef, Goto, Goto32, Branch}
use Rattle.bq_insn.specs.Slots.{slots_of, spread}
use Rattle.bq_bpf.specs.Memory.{reference}
use Rattle.bq_bpf.specs.Steps.{LeadsTo, instruction_at}
use Rattle.bq_bpf.specs.Instructions.{distance_of, goes_on}
use Rattle.bq_verify.specs.Edges.{IsStart}
use Rattle.bq_import.specs.declared.order.Ordered.{Ordered}

-- a number that is the reference of one of this many maps
abbrev pub is_reference : ℕ → ℕ → Bool
is_reference maps value = nat_le (reference 0) value && nat_lt value (reference maps)

-- the copy of a wide number: the reference of a map, if it is one
abbrev pub wide_copy : Bool → ℕ → ℕ → Insn
wide_copy true dst value = MapRef dst (pos (value - reference 0))
wide_copy false dst value = Imm64 dst value

-- the copy of an instruction in a program of this many maps; if it jumps, it has this distance
abbrev pub copied : ℕ → Insn → ℤ → Insn
copied maps (Goto off) distance = Goto distance
copied maps (Goto32 imm) distance = Goto32 distance
copied maps (Branch w c dst src off) distance = Branch w c dst src distance
copied maps (Imm64 dst value) distance = wide_copy (is_reference maps value) dst value
copied maps insn distance = insn

-- the slot of the new program is a copy of that slot of the old one
pub record IsCopyOfSlot (new : List (Option Insn)) (origin : List ℕ) (slot from : ℕ) : Type 0 where
  pub start : IsStart new slot
  pub origin_is : slice_index origin slot ≡ from

-- both jumps lead somewhere; the copy leads to a later slot, which is a copy of where the original leads
pub record JumpsAlike (new : List (Option Insn)) (origin : List ℕ) (from slot : ℕ) (far near : ℤ) : Type 0 where
  pub target : ℕ
  pub landing : ℕ
  pub leads : LeadsTo from far target
  pub lands : LeadsTo slot near landing
  pub later : slot < landing
  pub stands : IsCopyOfSlot new origin landing target

-- the instruction at a slot of the copy is a copy of the original at its slot, and goes on to copies of where the original goes on to
pub record IsCopyAt (maps : ℕ) (old new : List (Option Insn)) (origin : List ℕ) (slot from : ℕ) : Type 0 where
  pub original : Insn
  pub distance : ℤ
  pub here : instruction_at old from ≡ Some original
  pub copy : instruction_at new slot ≡ Some (copied maps original distance)
  pub on : goes_on original ≡ true → IsCopyOfSlot new origin (slot + slots_of original) (from + slots_of original)
  pub jumps : (far : ℤ) → distance_of original ≡ Some far → JumpsAlike new origin from slot far distance

-- the new program is a copy of the old one, beside this many maps, in which each jump goes forward; the list has the old slot of
-- each new one
pub record IsCopy (maps : ℕ) (old new : List (Option Insn)) (origin : List ℕ) : Type 0 where
  pub first : IsCopyOfSlot new origin 0 0
  pub each : (slot from : ℕ) → IsCopyOfSlot new origin slot from → IsCopyAt maps old new origin slot from

-- a program in order is such a copy
abbrev pub IsOrderedCopy : ℕ → List (Option Insn) → Ordered → Type 0
IsOrderedCopy maps old ordered = IsCopy maps old (spread ordered.insns.items) ordered.origins.items

-- for each slot of a copy of a copy, the slot of the first program
abbrev pub AreComposed : List ℕ → List ℕ → List ℕ → Type 0
AreComposed first second all = all ≡ map (λ slot. slice_index first slot) second
