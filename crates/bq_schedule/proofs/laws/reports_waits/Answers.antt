use Rattle.bq_schedule.proofs.WaitLemmas as Waits
use Rattle.bq_schedule.proofs.laws.reports_waits.Goals as goal

pub returns : goal.returns
returns c = Waits.reports_waits
