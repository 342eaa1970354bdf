use Rattle.bq_simulate.specs.Simulations.{GoesOnForAnyKinds}
use Rattle.bq_simulate.specs.Steps.{AreJustEvents, last_ticks}
use Rattle.bq_simulate.proofs.simulation.Simulation.finish.Given as goal

abbrev pub invariant-processors : goal.invariant-processors
invariant-processors g l = record {
  goes_on : GoesOnForAnyKinds g.S.Sink.takes (AreJustEvents (last_ticks l.end l.processor)) l.initial.sink l.initial.self l.sink l.self;
}
