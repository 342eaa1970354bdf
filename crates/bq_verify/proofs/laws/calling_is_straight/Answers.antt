use Rattle.bq_verify.proofs.CallingLemmas.{calling_is_straight}
use Rattle.bq_verify.proofs.laws.calling_is_straight.Goals as goal

pub returns : goal.returns
returns c = calling_is_straight
