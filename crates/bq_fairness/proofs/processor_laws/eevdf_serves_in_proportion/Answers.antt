-- Two tasks are served in proportion under EEVDF.
use Rattle.bq_fairness.proofs.EevdfShareLemmas.{eevdf_serves_in_proportion}
use Rattle.bq_fairness.proofs.processor_laws.eevdf_serves_in_proportion.Goals as goal

pub returns : goal.returns
returns c = eevdf_serves_in_proportion
