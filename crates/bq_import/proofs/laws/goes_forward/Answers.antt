use Rattle.bq_import.proofs.PathLemmas.{goes_forward}
use Rattle.bq_import.proofs.laws.goes_forward.Goals as goal

pub returns : goal.returns
returns c = goes_forward
