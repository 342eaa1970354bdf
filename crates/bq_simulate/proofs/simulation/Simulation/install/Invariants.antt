use Rattle.std.proofs.Common.{◌≡◌, take}
use Rattle.bq_simulate.specs.GoingWell.{HasGenerations}
use Rattle.bq_simulate.specs.Simulations.{GoesOnForAnyKinds}
use Rattle.bq_simulate.specs.Steps.{AreInstalled}
use Rattle.bq_simulate.proofs.simulation.Simulation.install.Given as goal

abbrev pub invariant-policies : goal.invariant-policies
invariant-policies g l = record {
  goes_on : GoesOnForAnyKinds g.S.Sink.takes (AreInstalled l.processors (take l.policy-index l.policies)) l.initial.sink l.initial.self l.sink l.self;
  roster : l.self.roster ≡ l.initial.self.roster;
  streams : l.self.streams ≡ l.initial.self.streams;
  firsts : l.self.firsts ≡ l.initial.self.firsts;
  counts : l.self.counts ≡ l.initial.self.counts;
  generations : HasGenerations 0 l.initial.self.driver.machine.world → HasGenerations l.policy-index l.self.driver.machine.world;
}
