use Rattle.bq_verify.proofs.FirstLemmas.{one_first_fault}
use Rattle.bq_verify.proofs.laws.one_first_fault.Goals as goal

pub returns : goal.returns
returns c = one_first_fault
