-- Two tasks that are present throughout are served in proportion under EEVDF.
use Rattle.bq_fairness.proofs.ThroughoutLemmas.{eevdf_serves_throughout}
use Rattle.bq_fairness.proofs.processor_laws.eevdf_serves_throughout.Goals as goal

pub returns : goal.returns
returns c = eevdf_serves_throughout
