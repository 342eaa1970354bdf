use Rattle.std.proofs.Common.{◌≡◌, ℕ}
use Rattle.bq_simulate.specs.Kept.{IsNewerFrom}
use Rattle.bq_simulate.specs.GoingWell.{HasGenerations}
use Rattle.bq_simulate.specs.Simulations.{GoesOnForAnyKinds}
use Rattle.bq_simulate.specs.Steps.{AreJustEvents, installs_of}
use Rattle.bq_simulate.proofs.simulation.Simulation.install_one.Given as goal

abbrev pub invariant-processors : goal.invariant-processors
invariant-processors g l = record {
  goes_on : GoesOnForAnyKinds g.S.Sink.takes (AreJustEvents (installs_of l.processor l.generation l.policy)) l.initial.sink l.initial.self l.sink l.self;
  roster : l.self.roster ≡ l.initial.self.roster;
  streams : l.self.streams ≡ l.initial.self.streams;
  firsts : l.self.firsts ≡ l.initial.self.firsts;
  counts : l.self.counts ≡ l.initial.self.counts;
  generations : (count : ℕ) → HasGenerations count l.initial.self.driver.machine.world →
      IsNewerFrom 0 l.generation l.initial.self.driver.machine.world →
      HasGenerations count l.self.driver.machine.world × IsNewerFrom l.processor l.generation l.self.driver.machine.world;
}
