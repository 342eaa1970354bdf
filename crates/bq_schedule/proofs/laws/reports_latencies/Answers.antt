use Rattle.bq_schedule.proofs.WakeLemmas as Wakes
use Rattle.bq_schedule.proofs.laws.reports_latencies.Goals as goal

pub returns : goal.returns
returns c = Wakes.reports_latencies
