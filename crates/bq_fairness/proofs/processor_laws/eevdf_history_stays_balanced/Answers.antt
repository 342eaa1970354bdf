-- Ticks keep a processor balanced, one after another.
use Rattle.bq_fairness.proofs.BalanceLemmas.{history_stays_balanced}
use Rattle.bq_fairness.proofs.processor_laws.eevdf_history_stays_balanced.Goals as goal

pub returns : goal.returns
returns c = history_stays_balanced
