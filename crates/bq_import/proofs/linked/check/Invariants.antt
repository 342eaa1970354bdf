use Rattle.bq_import.specs.Faults.{WellBefore}
use Rattle.bq_import.proofs.linked.check.Given as goal

abbrev pub invariant-loop-slot : goal.invariant-loop-slot
invariant-loop-slot l = WellBefore l.slots l.slot
