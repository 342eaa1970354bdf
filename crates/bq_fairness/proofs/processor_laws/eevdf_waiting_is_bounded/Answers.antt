-- No task waits long under EEVDF.
use Rattle.bq_fairness.proofs.EevdfShareLemmas.{eevdf_waiting}
use Rattle.bq_fairness.proofs.processor_laws.eevdf_waiting_is_bounded.Goals as goal

pub returns : goal.returns
returns c = eevdf_waiting
