use Rattle.bq_simulate.proofs.CallFaultLemmas as Calls
use Rattle.bq_simulate.proofs.agreement_laws.calls_fail_for_memory.Goals as goal

pub returns : goal.returns
returns c = Calls.calls_fail_for_memory
