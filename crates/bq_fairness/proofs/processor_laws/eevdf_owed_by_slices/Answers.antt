-- What a task is owed is bounded by its slice.
use Rattle.bq_fairness.proofs.EevdfSliceLemmas.{owed_by_slices}
use Rattle.bq_fairness.proofs.processor_laws.eevdf_owed_by_slices.Goals as goal

pub returns : goal.returns
returns c = owed_by_slices
