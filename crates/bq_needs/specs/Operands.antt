-- The operands of an instruction: the registers that it reads, and the memory that it accesses.
use Rattle.std.specs.Prelude.{◌≡◌, ℕ, ◌==◌, ◌&&◌, ◌||◌, Bool, true, false, Option, Some, None, slice_index_or}
use Rattle.bq_insn.specs.Slots.{byte_count}
use Rattle.bq_insn.specs.declared.Insn.{Insn}
use Rattle.bq_insn.specs.declared.Insn.TheVariants.{Alu, MovSx, Neg, End, Load, StoreImm, StoreReg, Branch}
use Rattle.bq_insn.specs.declared.Operation.{Operation}
use Rattle.bq_insn.specs.declared.Operation.TheVariants.{Mov}
use Rattle.bq_insn.specs.declared.Source.{Source}
use Rattle.bq_insn.specs.declared.Source.TheVariants.{Imm, Reg}
use Rattle.bq_bpf.specs.Steps.{Does}
use Rattle.bq_bpf.specs.Memory.{Setting, State}
use Rattle.bq_states.specs.declared.abstract_state.AbstractValue.{AbstractValue}
use Rattle.bq_states.specs.declared.abstract_state.AbstractState.{AbstractState}
use Rattle.bq_needs.specs.declared.memory_access.MemoryAccess.{MemoryAccess}

-- all operations but a move read what they change
abbrev pub reads_left : Operation → Bool
reads_left Mov = false
reads_left _ = true

-- the second operand is that register
abbrev pub is_that_register : Source → ℕ → Bool
is_that_register (Imm i) r = false
is_that_register (Reg s) r = s == r

-- the instruction reads the register as an operand
abbrev pub reads : Insn → ℕ → Bool
reads (Alu w op dst src) r = (reads_left op && (dst == r)) || is_that_register src r
reads (MovSx w bits dst src) r = src == r
reads (Neg w dst) r = dst == r
reads (End order bits dst) r = dst == r
reads (Load size signed dst src off) r = src == r
reads (StoreImm size dst off imm) r = dst == r
reads (StoreReg size dst off src) r = (dst == r) || (src == r)
reads (Branch w c dst src off) r = (dst == r) || is_that_register src r
reads insn r = false

-- what the instruction works on: a store of a register on that one, and each other instruction on those that it reads
abbrev pub works_on : Insn → ℕ → Bool
works_on (StoreReg size dst off src) r = src == r
works_on insn r = reads insn r

-- the machine does nothing by the instruction if the register is unset
abbrev pub NeedsSet : Insn → ℕ → Type 0
NeedsSet insn r = (f : Setting) (s t : State) → Does f insn s t → (n : ℕ) × (s.register r ≡ Some n)

-- what is known of a register
abbrev pub known_in : AbstractState → ℕ → Option AbstractValue
known_in state r = slice_index_or state.registers r None

-- the access of a load or a store
abbrev pub access_of : Insn → Option MemoryAccess
access_of (Load size signed dst src off) = Some (record { writes = false; bytes = byte_count size; register = src; off = off })
access_of (StoreImm size dst off imm) = Some (record { writes = true; bytes = byte_count size; register = dst; off = off })
access_of (StoreReg size dst off src) = Some (record { writes = true; bytes = byte_count size; register = dst; off = off })
access_of insn = None
