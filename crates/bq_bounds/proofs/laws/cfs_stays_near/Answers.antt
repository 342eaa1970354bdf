use Rattle.bq_bounds.proofs.NearnessLemmas.{cfs_stays_near}
use Rattle.bq_bounds.proofs.laws.cfs_stays_near.Goals as goal

pub returns : goal.returns
returns c = cfs_stays_near
