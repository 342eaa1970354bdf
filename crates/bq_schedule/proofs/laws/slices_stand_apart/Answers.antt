use Rattle.bq_schedule.proofs.ApartLemmas.{stand_apart}
use Rattle.bq_schedule.proofs.laws.slices_stand_apart.Goals as goal

pub returns : goal.returns
returns c = stand_apart
