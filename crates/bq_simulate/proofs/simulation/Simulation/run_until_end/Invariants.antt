use Rattle.std.proofs.Common.{◌≤◌}
use Rattle.bq_workload.specs.Accounts.{accounts_of}
use Rattle.bq_simulate.specs.GoingWell.{SimulationGoesWell, HasProcessors}
use Rattle.bq_simulate.specs.Simulations.{GoesOnFromBook}
use Rattle.bq_simulate.specs.Steps.{AreAllMet}
use Rattle.bq_simulate.proofs.FewUntilEndLemmas.{IsCounted}
use Rattle.bq_simulate.proofs.simulation.Simulation.run_until_end.Given as goal

abbrev pub invariant-steps : goal.invariant-steps
invariant-steps g l = record {
  goes_on : GoesOnFromBook g.S.Sink.takes l.workload.tasks.items
      (AreAllMet l.workload.tasks.items l.initial.self.seed l.initial.self.roster.periods l.counter l.last)
      l.initial.sink l.initial.self l.sink l.self;
  within : l.last ≤ l.end;
  well : SimulationGoesWell l.workload 0 l.initial.self → SimulationGoesWell l.workload l.last l.self;
  counted : SimulationGoesWell l.workload 0 l.initial.self → HasProcessors l.workload l.initial.self →
      HasProcessors l.workload l.self × IsCounted l.workload l.counter l.last (accounts_of l.self.roster);
}
