-- No measure of a charge passes its bound.
use Rattle.bq_bounds.proofs.MeasureLemmas.{measures_within}
use Rattle.bq_bounds.proofs.laws.measures_within.Goals as goal

pub returns : goal.returns
returns c = measures_within
