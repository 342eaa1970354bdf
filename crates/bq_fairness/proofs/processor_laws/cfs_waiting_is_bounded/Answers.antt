-- No task waits long under CFS.
use Rattle.bq_fairness.proofs.CfsShareLemmas.{cfs_waiting}
use Rattle.bq_fairness.proofs.processor_laws.cfs_waiting_is_bounded.Goals as goal

pub returns : goal.returns
returns c = cfs_waiting
