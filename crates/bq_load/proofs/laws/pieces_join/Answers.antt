use Rattle.bq_load.proofs.PieceLemmas as laws
use Rattle.bq_load.proofs.laws.pieces_join.Goals as goal

pub returns : goal.returns
returns c = laws.pieces_join
