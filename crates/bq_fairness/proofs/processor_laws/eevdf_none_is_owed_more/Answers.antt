-- None is owed more than the others are ahead by together.
use Rattle.bq_fairness.proofs.OwedLemmas.{none_is_owed_more}
use Rattle.bq_fairness.proofs.processor_laws.eevdf_none_is_owed_more.Goals as goal

pub returns : goal.returns
returns c = none_is_owed_more
