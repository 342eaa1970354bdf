use Rattle.bq_verify.proofs.LongerLemmas.{safe_on_longer}
use Rattle.bq_verify.proofs.laws.safe_on_longer.Goals as goal

pub returns : goal.returns
returns c = safe_on_longer
