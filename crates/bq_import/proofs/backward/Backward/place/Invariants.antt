use Rattle.std.proofs.Common.{◌-◌}
use Rattle.bq_import.specs.Running.{IsPutting}
use Rattle.bq_import.proofs.backward.Backward.place.Given as goal

-- the run is in front down to here
abbrev pub invariant-loop-done : goal.invariant-loop-done
invariant-loop-done l =
    IsPutting l.maps l.old l.fn.self.slots.items l.fn.self.origins.items l.last (l.last - l.done) l.self.slots.items
    l.self.origins.items
