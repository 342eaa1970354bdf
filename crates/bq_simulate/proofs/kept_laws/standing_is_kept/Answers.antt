use Rattle.bq_simulate.proofs.StandsAtActionLemmas as Standing
use Rattle.bq_simulate.proofs.kept_laws.standing_is_kept.Goals as goal

pub returns : goal.returns
returns c = Standing.standing_is_kept
