use Rattle.std.proofs.Common.{◌≡◌, ℕ, ◌<◌, false, length}
use Rattle.std.specs.Prelude.{slice_index_or}
use Rattle.bq_needs.specs.Needs.{is_unknown}
use Rattle.bq_needs.proofs.needs.unknown_registers.Given as goal

abbrev pub invariant-loop-register : goal.invariant-loop-register
invariant-loop-register l = record {
  room : length l.registers ≡ 11;
  are : (r : ℕ) → r < l.register → slice_index_or l.registers r false ≡ is_unknown l.state l.insn r;
}
