use Rattle.bq_load.proofs.OneAnswerLemmas.{one_answer}
use Rattle.bq_load.proofs.laws.one_answer.Goals as goal

pub returns : goal.returns
returns c = one_answer
