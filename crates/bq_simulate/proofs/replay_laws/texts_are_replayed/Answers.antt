use Rattle.bq_simulate.proofs.ReplayLemmas as lemmas
use Rattle.bq_simulate.proofs.replay_laws.texts_are_replayed.Goals as goal

pub returns : goal.returns
returns c = lemmas.texts_are_replayed
