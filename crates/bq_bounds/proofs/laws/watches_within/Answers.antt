-- What a watch keeps does not pass its bound.
use Rattle.bq_bounds.proofs.MeasureLemmas.{watches_within}
use Rattle.bq_bounds.proofs.laws.watches_within.Goals as goal

pub returns : goal.returns
returns c = watches_within
