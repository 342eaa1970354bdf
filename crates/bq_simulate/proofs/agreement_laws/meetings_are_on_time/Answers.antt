use Rattle.bq_simulate.proofs.MeetOnTimeLemmas as Times
use Rattle.bq_simulate.proofs.agreement_laws.meetings_are_on_time.Goals as goal

pub returns : goal.returns
returns c = Times.meetings_are_on_time
