use Rattle.std.proofs.Common.{◌≡◌, true}
use Rattle.bq_import.specs.Lengths.{IsLanding, run_slots}
use Rattle.bq_import.specs.Search.{is_open, left_of}
use Rattle.bq_import.specs.Searching.{IsAt, IsSearchWithin}
use Rattle.bq_import.proofs.search.Search.visit.Given as goal

abbrev pub invariant-loop-slot : goal.invariant-loop-slot
invariant-loop-slot l =
    IsAt l.maps l.old l.self × (is_open l.self.opens.items l.root ≡ true)
    × IsSearchWithin l.old l.self (run_slots l.old 0) × (IsLanding l.old l.root → IsSearchWithin l.old l.self 0)

abbrev pub decreases-loop-slot : goal.decreases-loop-slot
decreases-loop-slot l = left_of l.self.opens.items l.self.stack.items
