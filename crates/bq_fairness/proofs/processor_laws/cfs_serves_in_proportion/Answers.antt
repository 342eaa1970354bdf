-- CFS serves in proportion to weight.
use Rattle.bq_fairness.proofs.TickStepLemmas.{cfs_serves_in_proportion}
use Rattle.bq_fairness.proofs.processor_laws.cfs_serves_in_proportion.Goals as goal

pub returns : goal.returns
returns c = cfs_serves_in_proportion
