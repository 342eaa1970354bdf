use Rattle.std.proofs.Common.{refl}
use Rattle.bq_simulate.proofs.simulation.Simulation.count_missed_wake.Goals as goal

pub returns : goal.returns
returns c = record {
  driver = refl;
  accounts = refl;
  stays = record { agrees = λ h. h; periods = refl; seed = refl; streams = refl; firsts = refl };
}
