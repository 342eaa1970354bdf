use Rattle.bq_needs.specs.Accesses.{AreBytesSet}
use Rattle.bq_needs.proofs.accesses.touches_set.Given as goal

abbrev pub invariant-loop-byte : goal.invariant-loop-byte
invariant-loop-byte l = AreBytesSet l.state.set l.first l.byte
