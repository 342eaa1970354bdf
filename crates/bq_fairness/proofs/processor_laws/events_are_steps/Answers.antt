-- Each event of a processor is some steps.
use Rattle.bq_fairness.proofs.EventLemmas.{events_are_steps}
use Rattle.bq_fairness.proofs.processor_laws.events_are_steps.Goals as goal

pub returns : goal.returns
returns c = events_are_steps
