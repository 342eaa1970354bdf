use Rattle.bq_trace.proofs.WholeSessionLemmas as WholeSessions
use Rattle.bq_trace.proofs.laws.session_answers.Goals as goal

pub returns : goal.returns
returns c = WholeSessions.session_answers
