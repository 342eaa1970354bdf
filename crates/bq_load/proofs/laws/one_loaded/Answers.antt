use Rattle.bq_load.proofs.OneAnswerLemmas.{one_loaded}
use Rattle.bq_load.proofs.laws.one_loaded.Goals as goal

pub returns : goal.returns
returns c = one_loaded
