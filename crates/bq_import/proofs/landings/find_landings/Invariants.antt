use Rattle.bq_import.specs.Search.{AllComeTo, AreLandings}
use Rattle.bq_import.proofs.landings.find_landings.Given as goal

abbrev pub invariant-loop-index : goal.invariant-loop-index
invariant-loop-index l = AreLandings l.slots l.walk.landings.items × AllComeTo l.slots l.walk.queue.items
