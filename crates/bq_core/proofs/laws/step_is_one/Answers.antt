use Rattle.bq_core.proofs.OneStepLemmas as OneStep
use Rattle.bq_core.proofs.laws.step_is_one.Goals as goal

pub returns : goal.returns
returns c = OneStep.step_is_one
