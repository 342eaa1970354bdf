use Rattle.bq_schedule.proofs.WorldLemmas as Worlds
use Rattle.bq_schedule.proofs.laws.is_charged.Goals as goal

pub returns : goal.returns
returns c = Worlds.is_charged
