use Rattle.bq_installed.proofs.AnswerLemmas.{answers_within}
use Rattle.bq_installed.proofs.laws.answers_within.Goals as goal

pub returns : goal.returns
returns c = answers_within
