use Rattle.std.proofs.Common.{◌≡◌, ℕ, length, ◌-◌}
use Rattle.bq_import.specs.Backward.{IsFront}
use Rattle.bq_import.specs.Running.{IsRunOfSlots}
use Rattle.bq_import.specs.Search.{IsNextSlot}
use Rattle.bq_import.proofs.backward.Backward.run_end.Given as goal

abbrev pub invariant-loop-next : goal.invariant-loop-next
invariant-loop-next l =
    IsRunOfSlots l.old l.places l.slot l.last
    × ((next : ℕ) → IsNextSlot l.old l.slot next → IsFront l.self.slots.items l.self.origins.items next → l.last ≡ l.slot)

abbrev pub decreases-loop-next : goal.decreases-loop-next
decreases-loop-next l = length l.old - l.last
