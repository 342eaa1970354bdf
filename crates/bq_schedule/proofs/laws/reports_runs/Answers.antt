use Rattle.bq_schedule.proofs.RunLemmas as Runs
use Rattle.bq_schedule.proofs.laws.reports_runs.Goals as goal

pub returns : goal.returns
returns c = Runs.reports_runs
