use Rattle.bq_verify.proofs.WorkedLemmas.{worked_is_straight}
use Rattle.bq_verify.proofs.laws.worked_is_straight.Goals as goal

pub returns : goal.returns
returns c = worked_is_straight
