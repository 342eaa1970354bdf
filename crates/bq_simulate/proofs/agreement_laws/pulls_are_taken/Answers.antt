use Rattle.bq_simulate.proofs.EventTakenLemmas as Taken
use Rattle.bq_simulate.proofs.agreement_laws.pulls_are_taken.Goals as goal

pub returns : goal.returns
returns c = Taken.pulls_are_taken
