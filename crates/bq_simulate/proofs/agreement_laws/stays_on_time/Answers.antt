use Rattle.bq_simulate.proofs.StaysOnTimeLemmas as Times
use Rattle.bq_simulate.proofs.agreement_laws.stays_on_time.Goals as goal

pub returns : goal.returns
returns c = Times.stays_on_time
