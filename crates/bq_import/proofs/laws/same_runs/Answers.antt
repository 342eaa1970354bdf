use Rattle.bq_import.proofs.RunLemmas.{same_runs}
use Rattle.bq_import.proofs.laws.same_runs.Goals as goal

pub returns : goal.returns
returns c = same_runs
