-- Where control may go from a slot: the control graph of a program.
use Rattle.std.specs.Prelude.{◌≡◌, ℕ, ◌+◌, ◌<◌, List, Option, Some, length}
use Rattle.bq_insn.specs.declared.Insn.{Insn}
use Rattle.bq_insn.specs.Slots.{slots_of}
use Rattle.bq_bpf.specs.Instructions.{Leaves}
use Rattle.bq_bpf.specs.Steps.{instruction_at}

-- the control graph has an edge from the one slot to the other
pub record IsEdge (slots : List (Option Insn)) (from to : ℕ) : Type 0 where
  pub insn : Insn
  pub here : instruction_at slots from ≡ Some insn
  pub leaves : Leaves insn from to

-- an instruction begins at the slot
pub record IsStart (slots : List (Option Insn)) (slot : ℕ) : Type 0 where
  pub insn : Insn
  pub here : instruction_at slots slot ≡ Some insn

-- the instructions follow one after another without a gap: where one ends before the end of the program, the next one begins
abbrev pub IsWhole : List (Option Insn) → Type 0
IsWhole slots =
    (slot : ℕ) (insn : Insn) → instruction_at slots slot ≡ Some insn → slot + slots_of insn < length slots → IsStart slots (slot + slots_of insn)

-- each edge leads to a later instruction
abbrev pub IsForward : List (Option Insn) → Type 0
IsForward slots = (from to : ℕ) → IsEdge slots from to → (from < to) × IsStart slots to
