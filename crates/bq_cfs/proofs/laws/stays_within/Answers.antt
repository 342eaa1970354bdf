-- An event keeps a processor within its bound.
use Rattle.bq_cfs.proofs.SpreadStayLemmas.{stays_within}
use Rattle.bq_cfs.proofs.laws.stays_within.Goals as goal

pub returns : goal.returns
returns c = stays_within
