use Rattle.bq_simulate.proofs.AdmissionTakenLemmas as Taken
use Rattle.bq_simulate.proofs.agreement_laws.admissions_are_taken.Goals as goal

pub returns : goal.returns
returns c = Taken.admissions_are_taken
