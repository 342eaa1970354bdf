-- In time, none is owed more than n - 2 rises and its share of one.
use Rattle.bq_fairness.proofs.OwedLemmas.{none_is_owed_long}
use Rattle.bq_fairness.proofs.processor_laws.eevdf_none_is_owed_long.Goals as goal

pub returns : goal.returns
returns c = none_is_owed_long
