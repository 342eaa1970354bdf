use Rattle.bq_bounds.proofs.GreatestLemmas.{keeps_the_greatest}
use Rattle.bq_bounds.proofs.laws.keeps_the_greatest.Goals as goal

pub returns : goal.returns
returns c = keeps_the_greatest
