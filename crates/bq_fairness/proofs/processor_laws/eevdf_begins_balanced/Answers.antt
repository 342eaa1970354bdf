-- Where none is ahead by more than E, a processor is balanced.
use Rattle.bq_fairness.proofs.BalanceLemmas.{begins_balanced}
use Rattle.bq_fairness.proofs.processor_laws.eevdf_begins_balanced.Goals as goal

pub returns : goal.returns
returns c = begins_balanced
