-- Each task is served its share, except for a slice.
use Rattle.bq_fairness.proofs.EevdfSliceLemmas.{shares_by_slices}
use Rattle.bq_fairness.proofs.processor_laws.eevdf_shares_by_slices.Goals as goal

pub returns : goal.returns
returns c = shares_by_slices
