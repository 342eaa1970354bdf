-- Which instructions made what a register holds at a slot, by the ways of the control graph.
use Rattle.std.specs.Prelude.{Contains, ◌≡◌, ◌≤◌, ◌↔◌, ℕ, Bool, true, false, List, [], ◌∷◌, Option, Some, length, slice_index_or}
use Rattle.bq_insn.specs.declared.Insn.{Insn}
use Rattle.bq_bpf.specs.Steps.{instruction_at}
use Rattle.bq_insn.specs.declared.TheConstants.{SLOTS}
use Rattle.bq_verify.specs.Edges.{IsEdge}
use Rattle.bq_verify.specs.Passes.{IsGraphSound}
use Rattle.bq_verify.specs.Paths.{IsPath, path_end}
use Rattle.bq_verify.specs.Straight.{spares}
use Rattle.bq_needs.specs.Operands.{reads}
use Rattle.bq_explain.specs.declared.makers.Maker.{Maker}
use Rattle.bq_explain.specs.declared.makers.Role.{Role}
use Rattle.bq_explain.specs.declared.makers.Role.TheVariants.{Off, Makes, Leads}

-- no instruction on the path before its end writes the register
abbrev pub AreSparing : List (Option Insn) → ℕ → ℕ → List ℕ → Type 0
AreSparing slots register from [] = Unit {0}
AreSparing slots register from (next ∷ rest) = (spares register (instruction_at slots from) ≡ true) × AreSparing slots register next rest

-- a path from the one slot to the other on which no instruction before its end writes the register
pub record SparingWay (slots : List (Option Insn)) (register from to : ℕ) : Type 0 where
  pub rest : List ℕ
  pub is_path : IsPath slots from rest
  pub ends : path_end from rest ≡ to
  pub sparing : AreSparing slots register from rest

-- The instruction writes the register, and from it some way leads to the slot on which no later instruction writes the register.
-- A call answers in register 0 and ends what registers 1 to 5 held
pub record IsMaker (slots : List (Option Insn)) (register slot made : ℕ) : Type 0 where
  pub writes : spares register (instruction_at slots made) ≡ false
  pub next : ℕ
  pub edge : IsEdge slots made next
  pub way : SparingWay slots register next slot

-- the instruction at the slot reads the register
pub record ReadsAt (slots : List (Option Insn)) (slot register : ℕ) : Type 0 where
  pub insn : Insn
  pub here : instruction_at slots slot ≡ Some insn
  pub reads_it : reads insn register ≡ true

-- the trail of registers back from a slot: what made one of them for the slot, and what made for an instruction on the trail a register that it reads
pub data IsOnTrail (slots : List (Option Insn)) (slot : ℕ) (asked : List Bool) : ℕ → ℕ → Type 0 where
  first : (register made : ℕ) → slice_index_or asked register false ≡ true → IsMaker slots register slot made → IsOnTrail slots slot asked register made
  further : (register made later other : ℕ) → IsOnTrail slots slot asked other later
      → ReadsAt slots later register → IsMaker slots register later made → IsOnTrail slots slot asked register made

-- what the instruction at a slot is to the ways from it on which no later instruction writes the register before that slot
abbrev pub HasRole : List (Option Insn) → ℕ → ℕ → ℕ → Role → Type 0
HasRole slots register slot here Off = (SparingWay slots register here slot → ⊥) × (IsMaker slots register slot here → ⊥)
HasRole slots register slot here Makes = IsMaker slots register slot here
HasRole slots register slot here Leads = SparingWay slots register here slot

-- from that slot on the list has exactly the slots from which a way leads to the other one that spares the register
abbrev pub AreLeading : List (Option Insn) → ℕ → ℕ → ℕ → List Bool → Type 0
AreLeading slots register slot from leading = (k : ℕ) → from ≤ k → (slice_index_or leading k false ≡ true) ↔ SparingWay slots register k slot

-- each maker of the list is on the trail
abbrev pub AreOnTrail : List (Option Insn) → ℕ → List Bool → List Maker → Type 0
AreOnTrail slots slot asked trail = (maker : Maker) → Contains trail maker → IsOnTrail slots slot asked maker.register maker.slot

-- the instruction made one of the registers that are asked for at the slot
pub record MakesAsked (slots : List (Option Insn)) (slot : ℕ) (asked : List Bool) (maker : Maker) : Type 0 where
  pub of_asked : slice_index_or asked maker.register false ≡ true
  pub makes : IsMaker slots maker.register slot maker.slot

-- slots whose control graph may be walked
pub record CanBeWalked (slots : List (Option Insn)) : Type 0 where
  pub short : length slots ≤ SLOTS
  pub sound : IsGraphSound slots
