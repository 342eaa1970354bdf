use Rattle.bq_installed.proofs.AnswerLemmas.{answers_once}
use Rattle.bq_installed.proofs.laws.answers_once.Goals as goal

pub returns : goal.returns
returns c = answers_once
