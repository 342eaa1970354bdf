use Rattle.bq_simulate.proofs.EventFaultLemmas as Faults
use Rattle.bq_simulate.proofs.agreement_laws.only_memory_is_wanted.Goals as goal

pub returns : goal.returns
returns c = Faults.only_memory_is_wanted
