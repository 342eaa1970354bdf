use Rattle.std.proofs.Common.{◌≡◌, ◌+◌, ◌≤◌, drop}
use Rattle.std.specs.List.{list_all}
use Rattle.bq_insn.specs.Spelling.{slot_count, is_insn}
use Rattle.bq_insn.proofs.encode.well_formed.Given as goal

abbrev pub invariant-loop-insn : goal.invariant-loop-insn
invariant-loop-insn l = record {
  ranged : list_all is_insn l.insns ≡ list_all is_insn (drop l.insn-index l.insns);
  slots : l.slots + slot_count (drop l.insn-index l.insns) ≡ slot_count l.insns;
  few : l.slots ≤ 4096;
}
