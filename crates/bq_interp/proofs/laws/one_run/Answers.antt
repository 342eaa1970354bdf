use Rattle.bq_interp.proofs.OneRunLemmas.{one_run}
use Rattle.bq_interp.proofs.laws.one_run.Goals as goal

pub returns : goal.returns
returns c = one_run
