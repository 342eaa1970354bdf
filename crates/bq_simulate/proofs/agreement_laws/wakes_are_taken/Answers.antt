use Rattle.bq_simulate.proofs.WakeTakenLemmas as Taken
use Rattle.bq_simulate.proofs.agreement_laws.wakes_are_taken.Goals as goal

pub returns : goal.returns
returns c = Taken.wakes_are_taken
