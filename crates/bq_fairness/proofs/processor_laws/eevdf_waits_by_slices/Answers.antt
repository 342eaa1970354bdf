-- A task waits for a slice of each.
use Rattle.bq_fairness.proofs.EevdfSliceLemmas.{waits_by_slices}
use Rattle.bq_fairness.proofs.processor_laws.eevdf_waits_by_slices.Goals as goal

pub returns : goal.returns
returns c = waits_by_slices
