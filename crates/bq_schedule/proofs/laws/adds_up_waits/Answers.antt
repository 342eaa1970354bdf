use Rattle.bq_schedule.proofs.WaitLemmas as Waits
use Rattle.bq_schedule.proofs.laws.adds_up_waits.Goals as goal

pub returns : goal.returns
returns c = Waits.adds_up_waits
