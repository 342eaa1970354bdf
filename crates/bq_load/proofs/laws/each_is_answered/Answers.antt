use Rattle.bq_load.proofs.PieceLemmas as laws
use Rattle.bq_load.proofs.laws.each_is_answered.Goals as goal

pub returns : goal.returns
returns c = laws.each_is_answered
