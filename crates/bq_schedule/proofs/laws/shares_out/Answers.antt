use Rattle.bq_schedule.proofs.TotalLemmas as Totals
use Rattle.bq_schedule.proofs.laws.shares_out.Goals as goal

pub returns : goal.returns
returns c = Totals.shares_out
