-- The task that runs after a decision is eligible.
use Rattle.bq_fairness.proofs.EevdfFairLemmas.{decide_runs_eligible}
use Rattle.bq_fairness.proofs.processor_laws.eevdf_decides_eligible.Goals as goal

pub returns : goal.returns
returns c = decide_runs_eligible
