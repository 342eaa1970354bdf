-- The task that runs after a Tick is eligible.
use Rattle.bq_fairness.proofs.EevdfFairLemmas.{tick_runs_eligible}
use Rattle.bq_fairness.proofs.processor_laws.eevdf_runs_eligible.Goals as goal

pub returns : goal.returns
returns c = tick_runs_eligible
