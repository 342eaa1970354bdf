use Rattle.bq_hooks.proofs.PermittedLemmas as Permitted
use Rattle.bq_hooks.proofs.laws.own_choices_are_permitted.Goals as goal

pub returns : goal.returns
returns c = Permitted.own_choices_are_permitted
