use Rattle.std.proofs.Common.{◌≡◌, length, take}
use Rattle.bq_insn.specs.Slots.{spread}
use Rattle.bq_explain.proofs.program_point.index_at.Given as goal

abbrev pub invariant-loop-index : goal.invariant-loop-index
invariant-loop-index l = l.at ≡ length (spread (take l.index l.insns))
