use Rattle.bq_bounds.proofs.NearnessLemmas.{eevdf_stays_near}
use Rattle.bq_bounds.proofs.laws.eevdf_stays_near.Goals as goal

pub returns : goal.returns
returns c = eevdf_stays_near
