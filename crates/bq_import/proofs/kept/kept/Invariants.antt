use Rattle.std.proofs.Common.{length, ◌-◌}
use Rattle.bq_import.specs.Keeping.{IsKeeping}
use Rattle.bq_import.proofs.kept.kept.Given as goal

abbrev pub invariant-loop-done : goal.invariant-loop-done
invariant-loop-done l =
    IsKeeping l.maps l.old l.reached.items (length l.old - l.done) l.keeping.copy.slots.items l.keeping.copy.origins.items
    l.keeping.places.items
