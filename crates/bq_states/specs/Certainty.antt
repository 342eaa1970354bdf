-- What is sure of an abstract state. These facts are why straight programs are accepted.
use Rattle.std.specs.Prelude.{true, false, ◌≡◌, ◌≢◌, ℕ, ◌<◌, ◌≤◌, List, Option, Some, None, slice_index_or}
use Rattle.bq_insn.specs.declared.Source.TheVariants.{Imm, Reg}
use Rattle.bq_insn.specs.declared.Source.{Source}
use Rattle.bq_states.specs.declared.abstract_state.ValueKind.TheVariants.{Number}
use Rattle.bq_states.specs.declared.abstract_state.ValueKind.{ValueKind}
use Rattle.bq_states.specs.declared.abstract_state.AbstractValue.{AbstractValue}
use Rattle.bq_states.specs.declared.abstract_state.AbstractState.{AbstractState}

-- what may be sure of a register: it is a number; it is this number; it is a pointer this far above its base; it is no
-- pointer, and perhaps unknown
pub data Certainty : Type 0 where
  Scalar : Certainty
  Exact : ℕ → Certainty
  Pointer : ValueKind → ℕ → Certainty
  NoPointer : Certainty

-- the certainty holds for what an abstract state knows of a word
abbrev pub CertaintyHolds : Certainty → Option AbstractValue → Type 0
CertaintyHolds Scalar None = ⊥
CertaintyHolds (Exact n) None = ⊥
CertaintyHolds (Pointer kind o) None = ⊥
CertaintyHolds NoPointer None = Unit {0}
CertaintyHolds Scalar (Some k) = k.kind ≡ Number
CertaintyHolds (Exact n) (Some k) = (k.kind ≡ Number) × (k.offset.lo ≡ n) × (k.offset.hi ≡ n)
CertaintyHolds (Pointer kind o) (Some k) = (k.kind ≡ kind) × (kind ≢ Number) × (k.offset.lo ≡ o) × (k.offset.hi ≡ o)
CertaintyHolds NoPointer (Some k) = k.kind ≡ Number

-- the certainty holds for a register of the abstract state
abbrev pub CertaintyHoldsAt : Certainty → AbstractState → ℕ → Type 0
CertaintyHoldsAt s state r = CertaintyHolds s (slice_index_or state.registers r None)

-- at each place the new list keeps a certainty that holds in both the old list and the other one
abbrev pub KeepsCommonCertainties : List (Option AbstractValue) → List (Option AbstractValue) → List (Option AbstractValue) → Type 0
KeepsCommonCertainties old other new =
    (s : Certainty) (k : ℕ) → CertaintyHolds s (slice_index_or old k None) → CertaintyHolds s (slice_index_or other k None) → CertaintyHolds s (slice_index_or new k None)

-- a fact: a certainty about a register; a stack byte is set; a slot of eight bytes keeps no pointer; or `Never`, which
-- holds for no abstract state
pub data Fact : Type 0 where
  Never : Fact
  AtRegister : Certainty → ℕ → Fact
  IsSetAt : ℕ → Fact
  IsPlainAt : ℕ → Fact

-- the fact holds for the abstract state
abbrev pub Has : Fact → AbstractState → Type 0
Has Never state = ⊥
Has (AtRegister s r) state = CertaintyHolds s (slice_index_or state.registers r None)
Has (IsSetAt i) state = slice_index_or state.set i false ≡ true
Has (IsPlainAt j) state = CertaintyHolds NoPointer (slice_index_or state.kept j None)

-- the fact stays true if a number in register `dst` is replaced by another number
abbrev pub Outlasts : Fact → ℕ → Type 0
Outlasts (AtRegister (Exact n) r) dst = r ≢ dst
Outlasts x dst = Unit {0}

-- the operand is an immediate, or a register that is known to be a number
abbrev pub IsScalarOperand : AbstractState → Source → Type 0
IsScalarOperand state (Imm i) = Unit {0}
IsScalarOperand state (Reg r) = CertaintyHoldsAt Scalar state r

-- the abstract value is a number, and exactly this word
abbrev pub IsWord : ℕ → Option AbstractValue → Type 0
IsWord word None = ⊥
IsWord word (Some k) = (k.kind ≡ Number) × (k.offset.lo ≡ word) × (k.offset.hi ≡ word)

-- register `dst` has this certainty now, and no other register and no byte of the stack has changed
pub record IsMade (s : Certainty) (old new : AbstractState) (dst : ℕ) : Type 0 where
  pub given : CertaintyHoldsAt s new dst
  pub kept : (r : ℕ) → r ≢ dst → slice_index_or new.registers r None ≡ slice_index_or old.registers r None
  pub set_same : new.set ≡ old.set
  pub kept_same : new.kept ≡ old.kept

-- register `dst` is known to be a number now, and no other register and no byte of the stack has changed
abbrev pub IsGiven : AbstractState → AbstractState → ℕ → Type 0
IsGiven old new dst = IsMade Scalar old new dst

-- register 0 has this certainty now, and registers from 6 on and the stack have not changed
pub record IsCalled (s : Certainty) (old new : AbstractState) : Type 0 where
  pub given : CertaintyHoldsAt s new 0
  pub kept : (r : ℕ) → 6 ≤ r → slice_index_or new.registers r None ≡ slice_index_or old.registers r None
  pub set_same : new.set ≡ old.set
  pub kept_same : new.kept ≡ old.kept

-- register 0 is known to be a number now, and registers from 6 on and the stack have not changed
abbrev pub IsAnswered : AbstractState → AbstractState → Type 0
IsAnswered old new = IsCalled Scalar old new

-- the stack bytes from `from` up to `to` are set now, every byte that was set is still set, no pointer is newly kept,
-- and no register has changed
pub record IsStoredAt (old new : AbstractState) (from to : ℕ) : Type 0 where
  pub registers_same : new.registers ≡ old.registers
  pub stored : (i : ℕ) → from ≤ i → i < to → Has (IsSetAt i) new
  pub set : (i : ℕ) → Has (IsSetAt i) old → Has (IsSetAt i) new
  pub plain : (j : ℕ) → Has (IsPlainAt j) old → Has (IsPlainAt j) new
