use Rattle.bq_simulate.proofs.AllIsKeptLemmas as Kept
use Rattle.bq_simulate.proofs.kept_laws.all_is_kept.Goals as goal

pub returns : goal.returns
returns c = Kept.all_is_kept
