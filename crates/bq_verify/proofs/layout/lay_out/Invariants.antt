use Rattle.std.proofs.Common.{◌≡◌, take}
use Rattle.bq_insn.specs.Slots.{spread}
use Rattle.bq_verify.proofs.layout.lay_out.Given as goal

abbrev pub invariant-loop-insn : goal.invariant-loop-insn
invariant-loop-insn l = l.slots.items ≡ spread (take l.insn-index l.insns)
