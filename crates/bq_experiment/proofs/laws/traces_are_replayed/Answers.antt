use Rattle.bq_experiment.proofs.TraceLemmas as lemmas
use Rattle.bq_experiment.proofs.laws.traces_are_replayed.Goals as goal

pub returns : goal.returns
returns c = lemmas.traces_are_replayed
