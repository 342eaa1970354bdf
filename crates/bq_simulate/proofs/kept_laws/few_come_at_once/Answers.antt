use Rattle.bq_simulate.proofs.FewUntilEndLemmas as Bound
use Rattle.bq_simulate.proofs.kept_laws.few_come_at_once.Goals as goal

pub returns : goal.returns
returns c = Bound.few_come_at_once
