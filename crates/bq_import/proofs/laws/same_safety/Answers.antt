use Rattle.bq_import.proofs.RunLemmas.{same_safety}
use Rattle.bq_import.proofs.laws.same_safety.Goals as goal

pub returns : goal.returns
returns c = same_safety
