use Rattle.bq_simulate.proofs.EventTakenLemmas as Taken
use Rattle.bq_simulate.proofs.agreement_laws.ticks_are_taken.Goals as goal

pub returns : goal.returns
returns c = Taken.ticks_are_taken
