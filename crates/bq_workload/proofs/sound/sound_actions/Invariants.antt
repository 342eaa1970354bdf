use Rattle.std.proofs.Common.{◌≡◌, ◌++◌, drop, slice_get}
use Rattle.std.specs.List.{list_any}
use Rattle.bq_workload.specs.declared.sound.Unsound.TheVariants.{NoTime}
use Rattle.bq_workload.specs.Lengths.{takes_time}
use Rattle.bq_workload.specs.Soundness.{flaws_of_actions, flaws_of_doing, unless}
use Rattle.bq_workload.proofs.sound.sound_actions.Given as goal

abbrev pub invariant-actions : goal.invariant-actions
invariant-actions l =
    slice_get
    (flaws_of_actions l.kinds l.number l.place (drop l.place l.actions) ++ unless (list_any takes_time l.actions) (NoTime l.number)) 0
    ≡ slice_get (flaws_of_doing l.kinds l.number l.actions) 0
