use Rattle.bq_import.proofs.PathLemmas.{same_budget}
use Rattle.bq_import.proofs.laws.same_budget.Goals as goal

pub returns : goal.returns
returns c = same_budget
