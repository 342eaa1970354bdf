use Rattle.std.proofs.Common.{◌≡◌, ◌++◌, take, drop, true}
use Rattle.std.specs.List.{list_all}
use Rattle.bq_insn.specs.Spelling.{spelling, is_insn}
use Rattle.bq_insn.proofs.encode.append_all.Given as goal

abbrev pub invariant-loop-insn : goal.invariant-loop-insn
invariant-loop-insn l = record {
  added : l.out.items ≡ l.initial.out.items ++ spelling (take l.insn-index l.insns);
  ranged : list_all is_insn (drop l.insn-index l.insns) ≡ true;
}
