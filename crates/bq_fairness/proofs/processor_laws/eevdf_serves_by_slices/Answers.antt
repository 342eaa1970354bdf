-- Two tasks are served in proportion, except for a slice.
use Rattle.bq_fairness.proofs.TickStepLemmas.{eevdf_serves_by_slices}
use Rattle.bq_fairness.proofs.processor_laws.eevdf_serves_by_slices.Goals as goal

pub returns : goal.returns
returns c = eevdf_serves_by_slices
