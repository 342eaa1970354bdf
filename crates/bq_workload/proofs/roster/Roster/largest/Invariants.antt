use Rattle.bq_workload.specs.Dues.{HasLargest}
use Rattle.bq_workload.proofs.roster.Roster.largest.Given as goal

abbrev pub invariant-processors : goal.invariant-processors
invariant-processors l = HasLargest l.self.by_processor.items l.processor l.best
