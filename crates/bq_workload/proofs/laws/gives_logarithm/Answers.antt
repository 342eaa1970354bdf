use Rattle.bq_workload.proofs.LogarithmLemmas.{gives-logarithm}
use Rattle.bq_workload.proofs.laws.gives_logarithm.Goals as goal

pub returns : goal.returns
returns c = gives-logarithm
