use Rattle.bq_simulate.proofs.EventFaultLemmas as Faults
use Rattle.bq_simulate.proofs.agreement_laws.answers_fit.Goals as goal

pub returns : goal.returns
returns c = Faults.answers_fit
