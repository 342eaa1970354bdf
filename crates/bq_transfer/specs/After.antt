-- What is sure of the abstract state after an instruction, given the abstract state before it.
use Rattle.std.specs.Prelude.{◌≡◌, ◌≢◌, ℕ, ◌+◌, ◌<◌, ◌≤◌, ℤ, pos, ◌+ℤ◌, Some, ◌⊎◌}
use Rattle.bq_insn.specs.Slots.{byte_count}
use Rattle.bq_bpf.specs.Meaning.{word_of}
use Rattle.bq_insn.specs.declared.Condition.TheVariants.{Equal, NotEqual}
use Rattle.bq_insn.specs.declared.Condition.{Condition}
use Rattle.bq_insn.specs.declared.Insn.TheVariants.{Alu, StoreImm, StoreReg, MapRef, Branch, Call}
use Rattle.bq_insn.specs.declared.Insn.{Insn}
use Rattle.bq_insn.specs.declared.Operation.TheVariants.{Add, Mov}
use Rattle.bq_insn.specs.declared.Size.{Size}
use Rattle.bq_insn.specs.declared.Source.TheVariants.{Imm, Reg}
use Rattle.bq_insn.specs.declared.Width.TheVariants.{W64}
use Rattle.bq_bpf.specs.Steps.{LeadsTo}
use Rattle.bq_bpf.specs.Helpers.{number_of_helper}
use Rattle.bq_bpf.specs.declared.helper.Helper.TheVariants.{Lookup}
use Rattle.bq_bpf.specs.Memory.{stack_size}
use Rattle.bq_bpf.specs.Instructions.{destination_of}
use Rattle.bq_states.specs.Certainty.{Scalar, Exact, Pointer, NoPointer, CertaintyHoldsAt, Fact, Never, AtRegister, IsSetAt, IsPlainAt, Has}
use Rattle.bq_states.specs.Learnt.{IsCertain}
use Rattle.bq_states.specs.declared.abstract_state.ValueKind.TheVariants.{Entry, EntryOrNull, Map}
use Rattle.bq_states.specs.declared.abstract_state.ValueKind.{ValueKind}
use Rattle.bq_states.specs.declared.abstract_state.AbstractState.{AbstractState}

-- the instruction makes the register a number, whatever it held before
abbrev pub GivesNumber : Insn → ℕ → Type 0
GivesNumber (Alu w Mov dst (Imm i)) r = dst ≡ r
GivesNumber (Alu w Mov dst (Reg src)) r = (dst ≡ r) × (src ≢ 10)
GivesNumber (Alu w op dst src) r = ⊥
GivesNumber (MapRef dst index) r = ⊥
GivesNumber (Call helper) r = (r ≡ 0) × (helper ≢ number_of_helper Lookup)
GivesNumber insn r = destination_of insn ≡ Some r

-- if the register is a number before the instruction, it is one after it
abbrev pub LeavesNumber : Insn → ℕ → Type 0
LeavesNumber (Alu w Mov dst src) r = dst ≢ r
LeavesNumber (Alu w op dst src) r = Unit {0}
LeavesNumber (Call helper) r = 6 ≤ r
LeavesNumber insn r = destination_of insn ≡ Some r → ⊥

-- the instruction moves exactly this number into the register
abbrev pub GivesExact : ℕ → Insn → ℕ → Type 0
GivesExact n (Alu w Mov dst (Imm i)) r = (w ≡ W64) × (dst ≡ r) × (n ≡ word_of i)
GivesExact n insn r = ⊥

-- the instruction is no test of the register
abbrev pub IsNoTestOf : Insn → ℕ → Type 0
IsNoTestOf (Branch w c dst src off) r = r ≢ dst
IsNoTestOf insn r = Unit {0}

-- the instruction leaves the register as it is
abbrev pub Spares : Insn → ℕ → Type 0
Spares (Call helper) r = 6 ≤ r
Spares insn r = destination_of insn ≡ Some r → ⊥

-- the instruction leaves the kind of a pointer as it is; a branch does so only if the kind is certain
abbrev pub LeavesPointer : ValueKind → Insn → Type 0
LeavesPointer kind (Branch w c dst src off) = IsCertain kind
LeavesPointer kind insn = Unit {0}

-- from the test at `slot` control goes to `to` exactly when the operands differ
abbrev pub IsFoundSide : Condition → ℤ → ℕ → ℕ → Type 0
IsFoundSide Equal off slot to = (to ≡ slot + 1) × (LeadsTo slot off to → ⊥)
IsFoundSide NotEqual off slot to = LeadsTo slot off to × (to ≢ slot + 1)
IsFoundSide _ off slot to = ⊥

-- the instruction gives the register this pointer, given the abstract state before it: the name of a map, a copy of
-- register 10, a sum, the answer of a look-up, or the entry on the side of a test where it was found
abbrev pub GivesPointer : ValueKind → ℕ → ℕ → ℕ → Insn → ℕ → AbstractState → Type 0
GivesPointer kind o slot k (MapRef dst index) r state = (dst ≡ r) × (m : ℕ) × (index ≡ pos m) × (kind ≡ Map m) × (o ≡ 0)
GivesPointer kind o slot k (Alu w Mov dst (Reg src)) r state = (dst ≡ r) × (src ≡ 10) × CertaintyHoldsAt (Pointer kind o) state 10
GivesPointer kind o slot k (Alu w Add dst (Imm i)) r state = (dst ≡ r) × (base : ℕ) × CertaintyHoldsAt (Pointer kind base) state dst × (pos o ≡ (pos base +ℤ i))
GivesPointer kind o slot k (Call helper) r state = (r ≡ 0) × (helper ≡ number_of_helper Lookup) × (m : ℕ) × (kind ≡ EntryOrNull m) × (o ≡ 0) × CertaintyHoldsAt (Pointer (Map m) 0) state 1
GivesPointer kind o slot k (Branch w c dst src off) r state =
    (dst ≡ r) × (m : ℕ) × (kind ≡ Entry m) × (o ≡ 0) × CertaintyHoldsAt (Pointer (EntryOrNull m) 0) state dst × IsFoundSide c off slot k
GivesPointer kind o slot k insn r state = ⊥

-- byte `i` of the stack is one of those that an access at this distance from register 10 has
abbrev pub IsStackByte : Size → ℤ → ℕ → Type 0
IsStackByte size off i = (at : ℕ) × (pos at ≡ (pos stack_size +ℤ off)) × (at ≤ i) × (i < at + byte_count size)

-- the instruction stores byte `i` of the stack by register 10
abbrev pub StoresByte : Insn → ℕ → Type 0
StoresByte (StoreImm size dst off imm) i = (dst ≡ 10) × IsStackByte size off i
StoresByte (StoreReg size dst off src) i = (dst ≡ 10) × IsStackByte size off i
StoresByte insn i = ⊥

-- the fact is sure after an instruction on the way to slot `k`: the instruction made it true, or it was true and the
-- instruction left it true
abbrev pub After : Fact → ℕ → ℕ → Insn → AbstractState → Type 0
After Never slot k insn state = ⊥
After (AtRegister Scalar r) slot k insn state = GivesNumber insn r ⊎ (LeavesNumber insn r × Has (AtRegister Scalar r) state)
After (AtRegister (Exact n) r) slot k insn state = GivesExact n insn r ⊎ (Spares insn r × IsNoTestOf insn r × Has (AtRegister (Exact n) r) state)
After (AtRegister (Pointer kind o) r) slot k insn state =
    GivesPointer kind o slot k insn r state ⊎ (Spares insn r × LeavesPointer kind insn × Has (AtRegister (Pointer kind o) r) state)
After (AtRegister NoPointer r) slot k insn state = ⊥
After (IsSetAt i) slot k insn state = StoresByte insn i ⊎ Has (IsSetAt i) state
After (IsPlainAt j) slot k insn state = Has (IsPlainAt j) state

-- each fact that is sure after the instruction, on the way to any slot, holds for the new abstract state
abbrev pub CarriesFacts : Insn → AbstractState → AbstractState → Type 0
CarriesFacts insn old new = (x : Fact) (slot k : ℕ) → After x slot k insn old → Has x new
