-- Any two tasks are served within a bound of one another.
use Rattle.bq_fairness.proofs.TickStepLemmas.{cfs_serves_within}
use Rattle.bq_fairness.proofs.processor_laws.cfs_serves_within.Goals as goal

pub returns : goal.returns
returns c = cfs_serves_within
