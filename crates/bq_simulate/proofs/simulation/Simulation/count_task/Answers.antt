use Rattle.std.proofs.Common.{refl}
use Rattle.bq_simulate.proofs.simulation.Simulation.count_task.Goals as goal

pub returns-clause-same : goal.returns-clause-same
returns-clause-same c = record {
  driver = refl;
  accounts = refl;
  stays = record { agrees = λ h. h; periods = refl; seed = refl; streams = refl; firsts = refl };
}
