use Rattle.bq_load.proofs.LawLemmas as laws
use Rattle.bq_load.proofs.laws.one_fault.Goals as goal

pub returns : goal.returns
returns c = laws.one_fault
