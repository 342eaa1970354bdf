use Rattle.bq_simulate.proofs.NothingMissedLemmas as Times
use Rattle.bq_simulate.proofs.agreement_laws.nothing_is_missed.Goals as goal

pub returns : goal.returns
returns c = Times.nothing_is_missed
