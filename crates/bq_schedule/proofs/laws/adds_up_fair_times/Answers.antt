use Rattle.bq_schedule.proofs.TotalLemmas as Totals
use Rattle.bq_schedule.proofs.laws.adds_up_fair_times.Goals as goal

pub returns : goal.returns
returns c = Totals.adds_up_fair_times
