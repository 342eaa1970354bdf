-- None is beyond another's deadline by more than one rise.
use Rattle.bq_fairness.proofs.DueLemmas.{none_is_beyond_a_deadline}
use Rattle.bq_fairness.proofs.processor_laws.eevdf_none_is_beyond_a_deadline.Goals as goal

pub returns : goal.returns
returns c = none_is_beyond_a_deadline
