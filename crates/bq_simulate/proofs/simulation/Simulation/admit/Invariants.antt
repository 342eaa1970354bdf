use Rattle.std.proofs.Common.{◌≡◌, ◌+◌, length, take}
use Rattle.bq_words.specs.Sizes.{processors_in}
use Rattle.bq_simulate.specs.Actions.{first_task_of}
use Rattle.bq_simulate.specs.GoingWell.{OpensWell}
use Rattle.bq_simulate.specs.Simulations.{GoesOnBy}
use Rattle.bq_simulate.specs.Steps.{AreAllAdmitted}
use Rattle.bq_simulate.proofs.simulation.Simulation.admit.Given as goal

abbrev pub invariant-kinds : goal.invariant-kinds
invariant-kinds g l = record {
  goes_on : GoesOnBy g.S.Sink.takes l.workload.tasks.items
      (AreAllAdmitted (processors_in l.workload.machine.size) 0 0 (take l.number l.workload.tasks.items))
      l.initial.sink l.initial.self l.sink l.self;
  tasks : length l.self.roster.by_task.items ≡ first_task_of l.workload.tasks.items l.number;
  streams : length l.self.streams.items ≡ first_task_of l.workload.tasks.items l.number;
  well : OpensWell l.workload 0 l.initial.self → OpensWell l.workload (first_task_of l.workload.tasks.items l.number) l.self;
  firsts : length l.self.firsts.items ≡ length l.initial.self.firsts.items + l.number;
}
