use Rattle.bq_import.specs.Searching.{IsDoneWith, IsSearchWithin}
use Rattle.bq_import.proofs.search.Search.run.Given as goal

abbrev pub invariant-loop-slot : goal.invariant-loop-slot
invariant-loop-slot l = IsDoneWith l.maps l.old l.self × IsSearchWithin l.old l.self 0
