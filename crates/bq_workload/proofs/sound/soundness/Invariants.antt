use Rattle.std.proofs.Common.{◌≡◌, ◌++◌, drop, length, min, slice_get, take}
use Rattle.bq_words.specs.Sizes.{processors_in}
use Rattle.bq_workload.specs.Kinds.{tasks_in}
use Rattle.bq_workload.specs.Soundness.{first_flaw, flaws_of_count, flaws_of_kinds}
use Rattle.bq_workload.proofs.sound.soundness.Given as goal

abbrev pub invariant-kinds : goal.invariant-kinds
invariant-kinds l =
    let w = l.workload in
    let kinds = w.tasks.items in
    record {
      flaws : slice_get
          (flaws_of_kinds (processors_in w.machine.size) (length kinds) l.number (drop l.number kinds) ++ flaws_of_count kinds) 0
          ≡ first_flaw w;
      tasks : l.tasks ≡ min (tasks_in (take l.number kinds)) 65535;
    }
