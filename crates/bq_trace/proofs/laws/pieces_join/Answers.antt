use Rattle.bq_trace.proofs.ReplayLemmas.{Continues-join}
use Rattle.bq_trace.proofs.laws.pieces_join.Goals as goal

pub returns : goal.returns
returns c = Continues-join
