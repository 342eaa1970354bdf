use Rattle.std.proofs.Common.{◌≡◌, ◌+◌, length}
use Rattle.bq_words.specs.Sizes.{processors_in}
use Rattle.bq_simulate.specs.Actions.{first_task_of}
use Rattle.bq_simulate.specs.GoingWell.{OpensWell}
use Rattle.bq_simulate.specs.Simulations.{GoesOnBy}
use Rattle.bq_simulate.specs.Steps.{AreAdmitted}
use Rattle.bq_simulate.proofs.simulation.Simulation.admit_kind.Given as goal

abbrev pub invariant-tasks : goal.invariant-tasks
invariant-tasks g l = record {
  goes_on : GoesOnBy g.S.Sink.takes l.workload.tasks.items
      (AreAdmitted (processors_in l.workload.machine.size) l.number l.kind (first_task_of l.workload.tasks.items l.number) l.counter)
      l.initial.sink l.initial.self l.sink l.self;
  tasks : length l.self.roster.by_task.items ≡ length l.initial.self.roster.by_task.items + l.counter;
  streams : length l.self.streams.items ≡ length l.initial.self.streams.items + l.counter;
  firsts : l.self.firsts ≡ l.initial.self.firsts;
  counted : OpensWell l.workload (first_task_of l.workload.tasks.items l.number) l.initial.self →
      l.self.counts.tasks ≡ first_task_of l.workload.tasks.items l.number + l.counter;
}
