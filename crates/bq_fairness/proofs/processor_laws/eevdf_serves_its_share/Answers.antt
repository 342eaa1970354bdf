-- Each task is served its share under EEVDF.
use Rattle.bq_fairness.proofs.EevdfShareLemmas.{eevdf_serves_its_share}
use Rattle.bq_fairness.proofs.processor_laws.eevdf_serves_its_share.Goals as goal

pub returns : goal.returns
returns c = eevdf_serves_its_share
