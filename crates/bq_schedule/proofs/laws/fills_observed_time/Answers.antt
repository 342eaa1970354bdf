use Rattle.bq_schedule.proofs.WindowLemmas as Windows
use Rattle.bq_schedule.proofs.laws.fills_observed_time.Goals as goal

pub returns : goal.returns
returns c = Windows.fills_observed_time
