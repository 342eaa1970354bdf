-- Each task is served its share under CFS.
use Rattle.bq_fairness.proofs.CfsShareLemmas.{cfs_serves_its_share}
use Rattle.bq_fairness.proofs.processor_laws.cfs_serves_its_share.Goals as goal

pub returns : goal.returns
returns c = cfs_serves_its_share
