use Rattle.std.proofs.Common.{◌≡◌, take, false}
use Rattle.std.specs.List.{list_any}
use Rattle.bq_insn.specs.Spelling.{slot_count}
use Rattle.bq_import.specs.Importing.{is_address}
use Rattle.bq_import.proofs.section.address_in.Given as goal

-- no address so far, and this many slots
abbrev pub invariant-loop-insn : goal.invariant-loop-insn
invariant-loop-insn l = record {
  counted : l.slot ≡ slot_count (take l.insn-index l.insns);
  none : list_any is_address (take l.insn-index l.insns) ≡ false;
}
