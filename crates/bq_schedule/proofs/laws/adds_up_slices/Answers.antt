use Rattle.bq_schedule.proofs.SumLemmas.{adds_up}
use Rattle.bq_schedule.proofs.laws.adds_up_slices.Goals as goal

pub returns : goal.returns
returns c = adds_up
