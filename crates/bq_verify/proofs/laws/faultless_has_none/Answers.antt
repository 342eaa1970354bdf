use Rattle.bq_verify.proofs.FirstLemmas.{faultless_has_none}
use Rattle.bq_verify.proofs.laws.faultless_has_none.Goals as goal

pub returns : goal.returns
returns c = faultless_has_none
