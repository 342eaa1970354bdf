use Rattle.bq_needs.specs.Needs.{AreNumbersBelow}
use Rattle.bq_needs.proofs.needs.pointer_worked_on.Given as goal

abbrev pub invariant-loop-register : goal.invariant-loop-register
invariant-loop-register l = AreNumbersBelow l.register l.state l.insn
