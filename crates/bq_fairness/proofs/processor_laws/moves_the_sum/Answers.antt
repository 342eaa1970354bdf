-- What is booked is what the sum of weight times v rises by.
use Rattle.bq_fairness.proofs.WorkLemmas.{moves_the_sum}
use Rattle.bq_fairness.proofs.processor_laws.moves_the_sum.Goals as goal

pub returns : goal.returns
returns c = moves_the_sum
