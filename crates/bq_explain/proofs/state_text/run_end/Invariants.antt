use Rattle.bq_needs.specs.Accesses.{AreBytesSet}
use Rattle.bq_explain.proofs.state_text.run_end.Given as goal

abbrev pub invariant-loop-byte : goal.invariant-loop-byte
invariant-loop-byte l = AreBytesSet l.set l.first l.byte
