use Rattle.std.proofs.Common.{◌≡◌, ℕ, true, false}
use Rattle.std.specs.Prelude.{slice_index_or}
use Rattle.bq_needs.specs.Operands.{reads}
use Rattle.bq_needs.proofs.memory_access.read_registers.Given as goal

abbrev pub invariant-loop-register : goal.invariant-loop-register
invariant-loop-register l = (r : ℕ) → slice_index_or l.registers r false ≡ true → reads l.insn r ≡ true
