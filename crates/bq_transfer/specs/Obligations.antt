-- Which obligations an instruction may leave unproven.
use Rattle.std.specs.Prelude.{◌≡◌, ◌≢◌, ℕ, Some, None, slice_index_or}
use Rattle.bq_insn.specs.declared.Insn.{Insn}
use Rattle.bq_insn.specs.declared.Insn.TheVariants.{Alu, MovSx, Neg, End, Load, StoreImm, StoreReg, MapRef, Branch, Call, Exit}
use Rattle.bq_insn.specs.declared.Operation.{Operation}
use Rattle.bq_insn.specs.declared.Operation.TheVariants.{Mov}
use Rattle.bq_insn.specs.declared.Source.{Source}
use Rattle.bq_insn.specs.declared.Source.TheVariants.{Reg}
use Rattle.bq_insn.specs.declared.Width.{Width}
use Rattle.bq_insn.specs.declared.Width.TheVariants.{W32}
use Rattle.bq_states.specs.declared.abstract_state.ValueKind.TheVariants.{Number}
use Rattle.bq_states.specs.declared.abstract_state.AbstractValue.{AbstractValue}
use Rattle.bq_states.specs.declared.abstract_state.AbstractState.{AbstractState}
use Rattle.bq_transfer.specs.declared.obligation.Obligation.{Obligation}
use Rattle.bq_transfer.specs.declared.obligation.Obligation.TheVariants.{Unset, Access, PointerUse, Argument, Answer}

-- the instruction is a load or a store
abbrev pub IsAccess : Insn → Type 0
IsAccess (Load size signed dst src off) = Unit {0}
IsAccess (StoreImm size dst off imm) = Unit {0}
IsAccess (StoreReg size dst off src) = Unit {0}
IsAccess _ = ⊥

-- the instruction is a map reference or a call
abbrev pub TakesArgument : Insn → Type 0
TakesArgument (MapRef dst index) = Unit {0}
TakesArgument (Call helper) = Unit {0}
TakesArgument _ = ⊥

-- the instruction is an EXIT
abbrev pub IsExit : Insn → Type 0
IsExit Exit = Unit {0}
IsExit _ = ⊥

-- the arithmetic reads a register: all of it does, except a move of an immediate
abbrev pub ReadsRegister : Operation → Source → Type 0
ReadsRegister op src = op ≡ Mov → (r : ℕ) × (src ≡ Reg r)

-- the instruction reads a register as an operand; the registers of a call are arguments, and the register of an EXIT is
-- the answer
abbrev pub ReadsOperand : Insn → Type 0
ReadsOperand (Alu w op dst src) = ReadsRegister op src
ReadsOperand (MovSx w bits dst src) = Unit {0}
ReadsOperand (Neg w dst) = Unit {0}
ReadsOperand (End order bits dst) = Unit {0}
ReadsOperand (Load size signed dst src off) = Unit {0}
ReadsOperand (StoreImm size dst off imm) = Unit {0}
ReadsOperand (StoreReg size dst off src) = Unit {0}
ReadsOperand (Branch w c dst src off) = Unit {0}
ReadsOperand _ = ⊥

-- the arithmetic works on the word of a register: all of it does, except a 64-bit move and a move of an immediate
abbrev pub Calculates : Width → Operation → Source → Type 0
Calculates w op src = op ≡ Mov → (w ≡ W32) × (r : ℕ) × (src ≡ Reg r)

-- the instruction calculates with the word of a register, stores it or compares it
abbrev pub UsesWord : Insn → Type 0
UsesWord (Alu w op dst src) = Calculates w op src
UsesWord (MovSx w bits dst src) = Unit {0}
UsesWord (Neg w dst) = Unit {0}
UsesWord (End order bits dst) = Unit {0}
UsesWord (StoreReg size dst off src) = Unit {0}
UsesWord (Branch w c dst src off) = Unit {0}
UsesWord _ = ⊥

-- the instruction may leave the obligation unproven: Unset if it reads an operand, PointerUse if it uses a word, Access
-- if it is a load or a store, Argument if it is a call or a map reference, Answer if it is an EXIT
abbrev pub MayBeUnproven : Obligation → Insn → Type 0
MayBeUnproven Unset insn = ReadsOperand insn
MayBeUnproven PointerUse insn = UsesWord insn
MayBeUnproven Access insn = IsAccess insn
MayBeUnproven Argument insn = TakesArgument insn
MayBeUnproven Answer insn = IsExit insn

-- an instruction that stores the word may leave the obligation unproven; if the word is no number, the instruction uses a word
abbrev pub MayBeUnprovenStoring : AbstractValue → Obligation → Insn → Type 0
MayBeUnprovenStoring word obligation insn = (word.kind ≢ Number → UsesWord insn) → MayBeUnproven obligation insn

-- nothing is known of the register, not even that it is set
abbrev pub IsUnknownAt : AbstractState → ℕ → Type 0
IsUnknownAt state r = slice_index_or state.registers r None ≡ None

-- the register is known to be set, but not to a number
abbrev pub IsNoNumberAt : AbstractState → ℕ → Type 0
IsNoNumberAt state r = (k : AbstractValue) × (slice_index_or state.registers r None ≡ Some k) × (k.kind ≢ Number)

-- the number of an obligation, after the letter V
abbrev pub obligation_number : Obligation → ℕ
obligation_number Unset = 4
obligation_number Access = 5
obligation_number PointerUse = 6
obligation_number Argument = 8
obligation_number Answer = 9
