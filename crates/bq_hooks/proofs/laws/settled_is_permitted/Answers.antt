use Rattle.bq_hooks.proofs.PermittedLemmas as Permitted
use Rattle.bq_hooks.proofs.laws.settled_is_permitted.Goals as goal

pub returns : goal.returns
returns c = Permitted.settled_is_permitted
