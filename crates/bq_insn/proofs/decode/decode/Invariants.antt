use Rattle.std.proofs.Common.{◌≡◌, ◌+◌, ◌*◌, ◌%◌, ◌++◌, length, true}
use Rattle.std.specs.List.{list_all}
use Rattle.bq_insn.specs.Spelling.{spelling, slot_count, is_insn}
use Rattle.bq_insn.specs.Laws.{AllFit}
use Rattle.bq_insn.proofs.decode.decode.Given as goal

abbrev pub invariant-loop-rest : goal.invariant-loop-rest
invariant-loop-rest l = record {
  ranged : list_all is_insn l.insns.items ≡ true;
  numbers : AllFit l.insns.items;
  slots : l.slot ≡ slot_count l.insns.items;
  spelled : l.bytes ≡ spelling l.insns.items ++ l.rest;
  left : 8 * l.slot + length l.rest ≡ length l.bytes;
  whole : length l.rest % 8 ≡ 0;
}

abbrev pub decreases-loop-rest : goal.decreases-loop-rest
decreases-loop-rest l = length l.rest
