-- What each instruction needs from the abstract state before it, so that no obligation is left unproven.
use Rattle.std.specs.Prelude.{length, ◌≡◌, ◌≢◌, ℕ, ◌+◌, ◌-◌, ◌<◌, ◌≤◌, ℤ, pos, ◌+ℤ◌, List, Option, Some, None, slice_get, slice_index_or, ◌⊎◌}
use Rattle.bq_insn.specs.Slots.{byte_count}
use Rattle.bq_insn.specs.declared.Condition.TheVariants.{Equal, NotEqual}
use Rattle.bq_insn.specs.declared.Condition.{Condition}
use Rattle.bq_insn.specs.declared.Insn.TheVariants.{Alu, MovSx, Neg, End, Load, StoreImm, StoreReg, Imm64, MapRef, Goto, Goto32, Branch, Call, Exit}
use Rattle.bq_insn.specs.declared.Insn.{Insn}
use Rattle.bq_insn.specs.declared.Operation.TheVariants.{Add, Mov}
use Rattle.bq_insn.specs.declared.Operation.{Operation}
use Rattle.bq_insn.specs.declared.Size.{Size}
use Rattle.bq_insn.specs.declared.Source.TheVariants.{Imm, Reg}
use Rattle.bq_insn.specs.declared.Source.{Source}
use Rattle.bq_insn.specs.declared.Width.TheVariants.{W64}
use Rattle.bq_insn.specs.declared.Width.{Width}
use Rattle.bq_bpf.specs.declared.board.TheConstants.{COUNTERS}
use Rattle.bq_bpf.specs.declared.shape.MapShape.{MapShape}
use Rattle.bq_bpf.specs.Helpers.{number_of_helper}
use Rattle.bq_bpf.specs.declared.helper.Helper.{Helper}
use Rattle.bq_bpf.specs.declared.helper.Helper.TheVariants.{Lookup, Update, Now, Processor, AddCounter, ReadCounter}
use Rattle.bq_bpf.specs.Memory.{stack_size}
use Rattle.bq_bpf.specs.Instructions.{destination_of}
use Rattle.bq_states.specs.Certainty.{Scalar, Pointer, CertaintyHoldsAt, IsSetAt, IsPlainAt, Has, IsScalarOperand}
use Rattle.bq_states.specs.AbstractStates.{bound_of, size_of_shape}
use Rattle.bq_states.specs.declared.abstract_state.ValueKind.TheVariants.{Number, Stack, Entry, EntryOrNull, Map}
use Rattle.bq_states.specs.declared.abstract_state.ValueKind.{ValueKind}
use Rattle.bq_states.specs.declared.abstract_state.AbstractValue.{AbstractValue}
use Rattle.bq_states.specs.declared.abstract_state.AbstractState.{AbstractState}
use Rattle.bq_transfer.specs.declared.access.Access.{Access}
use Rattle.bq_transfer.specs.declared.access.Location.{Location}

-- the first operand of arithmetic is known to be a number; a MOV has no first operand
abbrev pub IsLeftReady : Operation → AbstractState → ℕ → Type 0
IsLeftReady Mov state dst = Unit {0}
IsLeftReady _ state dst = CertaintyHoldsAt Scalar state dst

-- an access by register `r` is at offset `at` of the region of this kind into which the register points, and inside it
pub record IsAccessPlaced (shapes : List MapShape) (context : ℕ) (state : AbstractState) (size : Size) (r : ℕ) (off : ℤ) (kind : ValueKind) (at : ℕ) : Type 0 where
  pub base : ℕ
  pub stands : CertaintyHoldsAt (Pointer kind base) state r
  pub at_is : pos at ≡ (pos base +ℤ off)
  pub bound : ℕ
  pub bound_is : bound_of shapes context kind ≡ Some bound
  pub inside : at + byte_count size ≤ bound

-- the access is at offset `at` of a region of this kind, and inside it
abbrev pub IsPlacedAt : List MapShape → ℕ → AbstractState → Access → ValueKind → ℕ → Type 0
IsPlacedAt shapes context state access kind at = IsAccessPlaced shapes context state access.size access.base access.off kind at

-- each place that the access surely has is the location, which has no other offset
abbrev pub IsLocation : List MapShape → ℕ → AbstractState → Access → Location → Type 0
IsLocation shapes context state access p =
    (kind : ValueKind) (place : ℕ) → IsPlacedAt shapes context state access kind place → (p.kind ≡ kind) × (p.at.lo ≡ place) × (p.at.hi ≡ place)

-- if the access is surely inside the stack, then `holds` is true of its offset there
abbrev pub IfOnStack : List MapShape → ℕ → AbstractState → Access → (ℕ → Type 0) → Type 0
IfOnStack shapes context state access holds = (at : ℕ) → IsPlacedAt shapes context state access Stack at → holds at

-- if the access is surely inside an entry of a map, then this holds
abbrev pub IfInEntry : List MapShape → ℕ → AbstractState → Access → Type 0 → Type 0
IfInEntry shapes context state access holds = (m at : ℕ) → IsPlacedAt shapes context state access (Entry m) at → holds

-- the load may read its bytes: if they are on the stack, they are set; and no slot of the stack keeps a pointer
pub record IsLoadReady (shapes : List MapShape) (context : ℕ) (state : AbstractState) (size : Size) (r : ℕ) (off : ℤ) : Type 0 where
  pub kind : ValueKind
  pub at : ℕ
  pub placed : IsAccessPlaced shapes context state size r off kind at
  pub set : kind ≡ Stack → (i : ℕ) → at ≤ i → i < at + byte_count size → Has (IsSetAt i) state
  pub plain : (j : ℕ) → Has (IsPlainAt j) state

-- the store is to the stack, at its distance from the end of the stack
pub record IsOnFrame (shapes : List MapShape) (context : ℕ) (state : AbstractState) (size : Size) (r : ℕ) (off : ℤ) : Type 0 where
  pub at : ℕ
  pub at_is : pos at ≡ (pos stack_size +ℤ off)
  pub placed : IsAccessPlaced shapes context state size r off Stack at

-- the store is into an entry of a map, and not by register 10
pub record IsIntoEntry (shapes : List MapShape) (context : ℕ) (state : AbstractState) (size : Size) (r : ℕ) (off : ℤ) : Type 0 where
  pub map : ℕ
  pub at : ℕ
  pub placed : IsAccessPlaced shapes context state size r off (Entry map) at
  pub other : r ≢ 10

-- the instruction is a 64-bit move of register 10, which points into the stack
pub record IsCopyOfFrame (state : AbstractState) (w : Width) (op : Operation) (src : Source) : Type 0 where
  pub is_copy : op ≡ Mov
  pub whole : w ≡ W64
  pub of_frame : src ≡ Reg 10
  pub base : ℕ
  pub stands : CertaintyHoldsAt (Pointer Stack base) state 10

-- the instruction adds an immediate to a pointer into the stack, and the sum still points into the stack or to its end
pub record IsMoveOfPointer (state : AbstractState) (w : Width) (op : Operation) (dst : ℕ) (src : Source) : Type 0 where
  pub is_sum : op ≡ Add
  pub whole : w ≡ W64
  pub distance : ℤ
  pub by_distance : src ≡ Imm distance
  pub base : ℕ
  pub stands : CertaintyHoldsAt (Pointer Stack base) state dst
  pub at : ℕ
  pub at_is : pos at ≡ (pos base +ℤ distance)
  pub below : base ≤ stack_size
  pub small : at ≤ stack_size

-- what a look-up needs: register 1 names a map, and register 2 points to four bytes of the stack that are set
pub record IsNamingEntry (state : AbstractState) (map : ℕ) : Type 0 where
  pub names : CertaintyHoldsAt (Pointer (Map map) 0) state 1
  pub at : ℕ
  pub points : CertaintyHoldsAt (Pointer Stack at) state 2
  pub inside : at + 4 ≤ stack_size
  pub set : (i : ℕ) → at ≤ i → i < at + 4 → Has (IsSetAt i) state

-- something is known of the word: it is a number of at most `most`
abbrev pub IsAtMost : ℕ → Option AbstractValue → Type 0
IsAtMost most None = ⊥
IsAtMost most (Some k) = (k.kind ≡ Number) × (k.offset.hi ≤ most)

-- what an update needs: all that a look-up needs; register 3 points to as many bytes of the stack as a value has, and
-- they are set; and register 4 is 0
pub record IsUpdating (shapes : List MapShape) (state : AbstractState) (map : ℕ) : Type 0 where
  pub names : IsNamingEntry state map
  pub size : ℕ
  pub size_is : size_of_shape (slice_get shapes map) ≡ Some size
  pub at : ℕ
  pub points : CertaintyHoldsAt (Pointer Stack at) state 3
  pub inside : at + size ≤ stack_size
  pub set : (i : ℕ) → at ≤ i → i < at + size → Has (IsSetAt i) state
  pub flags : IsAtMost 0 (slice_index_or state.registers 4 None)

-- the condition is a test for equality or inequality
abbrev pub IsNullTest : Condition → Type 0
IsNullTest Equal = Unit {0}
IsNullTest NotEqual = Unit {0}
IsNullTest _ = ⊥

-- the branch tests the answer of a look-up: a 64-bit test for equality with the immediate 0
pub record IsNullCheck (w : Width) (c : Condition) (src : Source) : Type 0 where
  pub whole : w ≡ W64
  pub of_null : IsNullTest c
  pub with_zero : src ≡ Imm (pos 0)

-- the number in a call is the number of this helper
abbrev pub IsHelper : Helper → ℤ → Type 0
IsHelper helper number = number ≡ number_of_helper helper

-- what an instruction needs from the abstract state before it
abbrev pub IsReady : List MapShape → ℕ → AbstractState → Insn → Type 0
IsReady shapes context state (Alu w op dst src) =
    (dst < 10) × ((IsLeftReady op state dst × IsScalarOperand state src) ⊎ (IsCopyOfFrame state w op src ⊎ IsMoveOfPointer state w op dst src))
IsReady shapes context state (MovSx w bits dst src) = (dst < 10) × CertaintyHoldsAt Scalar state src
IsReady shapes context state (Neg w dst) = (dst < 10) × CertaintyHoldsAt Scalar state dst
IsReady shapes context state (End order bits dst) = (dst < 10) × CertaintyHoldsAt Scalar state dst
IsReady shapes context state (Load size signed dst src off) = (dst < 10) × IsLoadReady shapes context state size src off
IsReady shapes context state (StoreImm size dst off imm) = IsOnFrame shapes context state size dst off ⊎ IsIntoEntry shapes context state size dst off
IsReady shapes context state (StoreReg size dst off src) = CertaintyHoldsAt Scalar state src × (IsOnFrame shapes context state size dst off ⊎ IsIntoEntry shapes context state size dst off)
IsReady shapes context state (Imm64 dst value) = dst < 10
IsReady shapes context state (MapRef dst index) = (dst < 10) × (m : ℕ) × (index ≡ pos m) × (m < length shapes)
IsReady shapes context state (Goto off) = Unit {0}
IsReady shapes context state (Goto32 imm) = Unit {0}
IsReady shapes context state (Branch w c dst src off) =
    (dst < 10) × ((CertaintyHoldsAt Scalar state dst × IsScalarOperand state src) ⊎ (IsNullCheck w c src × (m : ℕ) × CertaintyHoldsAt (Pointer (EntryOrNull m) 0) state dst))
IsReady shapes context state (Call helper) =
    (IsHelper Now helper ⊎ IsHelper Processor helper) ⊎ (IsHelper Lookup helper × (m : ℕ) × IsNamingEntry state m) ⊎ (IsHelper Update helper × (m : ℕ) × IsUpdating shapes state m)
IsReady shapes context state Exit = CertaintyHoldsAt Scalar state 0

-- if the instruction has what it needs, in a program with any maps and any length of context, then this holds
abbrev pub IfReady : AbstractState → Insn → Type 0 → Type 0
IfReady state insn holds = (shapes : List MapShape) (context : ℕ) → IsReady shapes context state insn → holds

-- neither a jump nor an EXIT
abbrev pub IsTransferred : Insn → Type 0
IsTransferred (Goto off) = ⊥
IsTransferred (Goto32 imm) = ⊥
IsTransferred (Branch w c dst src off) = ⊥
IsTransferred Exit = ⊥
IsTransferred insn = Unit {0}

-- the instruction does not write register 10, the address of the stack's end
abbrev pub WritesBelowFrame : Insn → Type 0
WritesBelowFrame insn = (r : ℕ) → destination_of insn ≡ Some r → r < 10

-- what a call of a counter needs: register 1 is the number of a counter, and for an add register 2 is a number, the amount
abbrev pub IsAsking : AbstractState → ℤ → Type 0
IsAsking state helper = IsAtMost (COUNTERS - 1) (slice_index_or state.registers 1 None) × (IsHelper AddCounter helper → CertaintyHoldsAt Scalar state 2)

-- the instruction is a call of a counter and has what it needs
abbrev pub IsReadyToAsk : AbstractState → Insn → Type 0
IsReadyToAsk state (Call helper) = (IsHelper AddCounter helper ⊎ IsHelper ReadCounter helper) × IsAsking state helper
IsReadyToAsk state insn = ⊥
