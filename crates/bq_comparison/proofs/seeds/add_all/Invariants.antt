use Rattle.bq_comparison.specs.Seeds.{Comes}
use Rattle.bq_comparison.proofs.seeds.add_all.Given as goal

abbrev pub invariant-results : goal.invariant-results
invariant-results l = Comes l.initial.runs.items l.yielded l.runs.items
