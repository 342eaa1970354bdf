-- Two tasks that are present throughout are served in proportion under CFS.
use Rattle.bq_fairness.proofs.ThroughoutLemmas.{cfs_serves_throughout}
use Rattle.bq_fairness.proofs.processor_laws.cfs_serves_throughout.Goals as goal

pub returns : goal.returns
returns c = cfs_serves_throughout
