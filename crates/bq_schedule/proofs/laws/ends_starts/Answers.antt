use Rattle.bq_schedule.proofs.PairLemmas as Pairs
use Rattle.bq_schedule.proofs.laws.ends_starts.Goals as goal

pub returns : goal.returns
returns c = Pairs.ends_starts
