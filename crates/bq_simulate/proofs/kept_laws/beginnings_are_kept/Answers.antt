use Rattle.bq_simulate.proofs.AllIsKeptLemmas as Kept
use Rattle.bq_simulate.proofs.kept_laws.beginnings_are_kept.Goals as goal

pub returns : goal.returns
returns c = Kept.beginnings_are_kept
