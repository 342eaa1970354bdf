-- Events keep a processor within its bound, one after another.
use Rattle.bq_cfs.proofs.SpreadStayLemmas.{history_stays_within}
use Rattle.bq_cfs.proofs.laws.history_stays_within.Goals as goal

pub returns : goal.returns
returns c = history_stays_within
