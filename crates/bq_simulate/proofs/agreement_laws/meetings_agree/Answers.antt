use Rattle.bq_simulate.proofs.MeetAgreeLemmas as Meets
use Rattle.bq_simulate.proofs.agreement_laws.meetings_agree.Goals as goal

pub returns : goal.returns
returns c = Meets.meetings_agree
