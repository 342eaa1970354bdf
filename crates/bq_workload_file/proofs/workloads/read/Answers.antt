use Rattle.std.proofs.Common.{rules}
use Rattle.toml.specs.View.{items_view, table_view}
use Rattle.bq_workload_file.specs.Workloads.{AreKinds, all_of}
use Rattle.bq_workload_file.proofs.EntryLemmas.{some-kinds}
use Rattle.bq_workload_file.proofs.SoundLemmas.{sound-described}
use Rattle.bq_workload_file.proofs.workloads.read.Goals as goal

pub returns-in-Ok-kinds-clause-describes : goal.returns-in-Ok-kinds-clause-describes
returns-in-Ok-kinds-clause-describes c =
    let (machine, tables) = c.in-Ok-outline.parts in
    let names = c.in-Ok-names.names.items in
    let tasks = c.in-Ok-kinds.tasks.items in
    let kinds : AreKinds names (all_of c.made-machine.result.size) (items_view tables.now) tasks = search rules in (
      table_view c.in-Ok.document,
      c.in-Ok.ensures.ok,
      record {
        known = c.in-Ok-outline.ensures.known;
        machine = (machine, c.in-Ok-outline.ensures.machine, c.made-machine.ensures);
        tasks = (
          items_view tables.now,
          names,
          c.in-Ok-outline.ensures.tasks,
          c.in-Ok-names.ensures.names,
          c.in-Ok-names.ensures.others,
          kinds,
        );
        some = some-kinds names (all_of c.made-machine.result.size) tables.now tasks kinds c.in-Ok-outline.ensures.some;
        few = c.in-Ok-kinds.ensures.few;
      },
    )

pub returns-in-Ok-kinds-clause-sound : goal.returns-in-Ok-kinds-clause-sound
returns-in-Ok-kinds-clause-sound c = λ long.
    let described = returns-in-Ok-kinds-clause-describes c in
    sound-described c.args.changes described.0 _ long described.2
