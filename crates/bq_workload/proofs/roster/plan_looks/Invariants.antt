use Rattle.bq_workload.specs.Dues.{AreLooks}
use Rattle.bq_workload.proofs.roster.plan_looks.Given as goal

abbrev pub invariant-processors : goal.invariant-processors
invariant-processors l = AreLooks l.processor l.time l.event_queue
