use Rattle.bq_import.specs.Keeping.{AreFollowed}
use Rattle.bq_import.proofs.reached.find_reached.Given as goal

abbrev pub invariant-loop-slot : goal.invariant-loop-slot
invariant-loop-slot l = AreFollowed l.old l.slot l.reached.items
