use Rattle.bq_bounds.proofs.OwedLemmas.{eevdf_owes_within}
use Rattle.bq_bounds.proofs.laws.eevdf_owes_within.Goals as goal

pub returns : goal.returns
returns c = eevdf_owes_within
