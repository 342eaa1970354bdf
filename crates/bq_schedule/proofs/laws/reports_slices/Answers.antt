use Rattle.bq_schedule.proofs.SliceTimeLemmas.{slices-reported}
use Rattle.bq_schedule.proofs.laws.reports_slices.Goals as goal

pub returns : goal.returns
returns c = slices-reported
