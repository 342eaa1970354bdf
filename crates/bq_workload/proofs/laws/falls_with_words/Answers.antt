use Rattle.bq_workload.proofs.FallingLemmas.{falls-with-words}
use Rattle.bq_workload.proofs.laws.falls_with_words.Goals as goal

pub returns : goal.returns
returns c = falls-with-words
