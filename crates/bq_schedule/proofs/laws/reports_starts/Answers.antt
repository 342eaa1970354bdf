use Rattle.bq_schedule.proofs.SwitchLemmas as Switches
use Rattle.bq_schedule.proofs.laws.reports_starts.Goals as goal

pub returns : goal.returns
returns c = Switches.reports_starts
