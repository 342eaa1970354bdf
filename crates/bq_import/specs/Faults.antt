-- What keeps a program from being brought into order.
use Rattle.std.specs.Prelude.{◌≡◌, ℕ, ◌+◌, ◌<◌, ◌≤◌, ℤ, true, List, Option, Some, length}
use Rattle.bq_insn.specs.declared.Insn.{Insn}
use Rattle.bq_insn.specs.Slots.{slots_of}
use Rattle.bq_bpf.specs.Steps.{LeadsTo, instruction_at}
use Rattle.bq_bpf.specs.Instructions.{distance_of, goes_on}
use Rattle.bq_verify.specs.Edges.{IsEdge, IsStart}
use Rattle.bq_verify.specs.Paths.{Path}
use Rattle.bq_verify.specs.Faults.{RunsOut}
use Rattle.bq_import.specs.Backward.{AreGood}
use Rattle.bq_import.specs.Lengths.{AreRunsTooLong}
use Rattle.bq_import.specs.Orders.{HasLongOrder}
use Rattle.bq_import.specs.declared.fault.Disorder.{Disorder}
use Rattle.bq_import.specs.declared.fault.Disorder.TheVariants.{Outside, Ends, Loop, Long, OutOfMemory}
use Rattle.bq_insn.specs.declared.TheConstants.{SLOTS}

-- from each instruction control goes only to instructions
abbrev pub LeadsWell : List (Option Insn) → ℕ → Insn → Type 0
LeadsWell slots slot insn =
    (goes_on insn ≡ true → IsStart slots (slot + slots_of insn))
    × ((far : ℤ) → distance_of insn ≡ Some far → (to : ℕ) × LeadsTo slot far to × IsStart slots to)

-- control goes from the instruction at the slot, if one begins there, only to instructions
abbrev pub WellAt : List (Option Insn) → ℕ → Type 0
WellAt slots slot = (insn : Insn) → instruction_at slots slot ≡ Some insn → LeadsWell slots slot insn

-- control goes only to instructions from each slot before this one
abbrev pub WellBefore : List (Option Insn) → ℕ → Type 0
WellBefore slots slot = (j : ℕ) → j < slot → WellAt slots j

-- no instruction begins within another
abbrev pub HasGaps : List (Option Insn) → Type 0
HasGaps slots = (slot : ℕ) (insn : Insn) → instruction_at slots slot ≡ Some insn → (j : ℕ) → slot < j → j < slot + slots_of insn → IsStart slots j → ⊥

-- a program whose control goes from instructions only to instructions
pub record IsLinked (slots : List (Option Insn)) : Type 0 where
  pub good : AreGood slots
  pub gaps : HasGaps slots
  pub short : length slots ≤ 4096
  pub leads : (slot : ℕ) → WellAt slots slot

-- a jump leads to a place where no instruction begins
pub record LeadsNowhere (slots : List (Option Insn)) (slot : ℕ) : Type 0 where
  pub insn : Insn
  pub here : instruction_at slots slot ≡ Some insn
  pub distance : ℤ
  pub jumps : distance_of insn ≡ Some distance
  pub nowhere : (to : ℕ) → LeadsTo slot distance to → IsStart slots to → ⊥

-- control comes to the one slot, goes from there to the other, and from there back again
pub record IsLoop (slots : List (Option Insn)) (from to : ℕ) : Type 0 where
  pub comes : Path slots 0 from
  pub edge : IsEdge slots from to
  pub back : Path slots to from

-- this is wrong at the slot: control goes on past the end; or it does not, and a jump leads to a place where no instruction begins
abbrev pub IsWrongAt : List (Option Insn) → ℕ → Disorder → Type 0
IsWrongAt slots slot (Ends at) = (at ≡ slot) × RunsOut slots slot
IsWrongAt slots slot (Outside at) = (at ≡ slot) × LeadsNowhere slots slot × (RunsOut slots slot → ⊥)
IsWrongAt slots slot d = ⊥

-- control goes from each instruction only to later ones
abbrev pub AllForward : List (Option Insn) → Type 0
AllForward slots = (from to : ℕ) → IsEdge slots from to → from < to

-- what is wrong with the program: the fault of the first slot that has one. If no slot has one, there is a loop, or some jump
-- goes back and the program is too long (a program of fewer than 64 slots never is)
abbrev pub IsDisorder : List (Option Insn) → Disorder → Type 0
IsDisorder slots (Ends slot) = RunsOut slots slot × WellBefore slots slot
IsDisorder slots (Outside slot) = LeadsNowhere slots slot × (RunsOut slots slot → ⊥) × WellBefore slots slot
IsDisorder slots (Loop from to) = IsLinked slots × IsLoop slots from to
IsDisorder slots Long = IsLinked slots × (AllForward slots → ⊥) × AreRunsTooLong slots × HasLongOrder slots × (64 ≤ length slots)
IsDisorder slots OutOfMemory = Unit {0}

-- why the search ends early: a loop, or a program that is too long
abbrev pub IsSearchFault : List (Option Insn) → Disorder → Type 0
IsSearchFault slots (Loop from to) = IsLinked slots × IsLoop slots from to
IsSearchFault slots Long = IsLinked slots × AreRunsTooLong slots × HasLongOrder slots
IsSearchFault slots OutOfMemory = Unit {0}
IsSearchFault slots d = ⊥

-- the copy did not fit: it would have had that many slots or fewer, and over `SLOTS`
abbrev pub IsFull : ℕ → Disorder → Type 0
IsFull most Long = SLOTS < most
IsFull most OutOfMemory = Unit {0}
IsFull most d = ⊥
