-- What is owed most does not pass its bound.
use Rattle.bq_bounds.proofs.LagBoundLemmas.{lags_within}
use Rattle.bq_bounds.proofs.laws.lags_within.Goals as goal

pub returns : goal.returns
returns c = lags_within
