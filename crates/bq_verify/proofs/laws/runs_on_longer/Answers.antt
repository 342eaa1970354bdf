use Rattle.bq_verify.proofs.LongerLemmas.{runs_on_longer}
use Rattle.bq_verify.proofs.laws.runs_on_longer.Goals as goal

pub returns : goal.returns
returns c = runs_on_longer
