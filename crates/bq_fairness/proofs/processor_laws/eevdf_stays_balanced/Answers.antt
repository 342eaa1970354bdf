-- A Tick keeps a processor balanced.
use Rattle.bq_fairness.proofs.BalanceLemmas.{stays_balanced}
use Rattle.bq_fairness.proofs.processor_laws.eevdf_stays_balanced.Goals as goal

pub returns : goal.returns
returns c = stays_balanced
