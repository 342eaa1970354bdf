use Rattle.bq_hooks.proofs.LeastPlaceLemmas as LeastPlace
use Rattle.bq_hooks.proofs.laws.own_place_is_lawful.Goals as goal

pub returns : goal.returns
returns c = LeastPlace.own_place_is_lawful
