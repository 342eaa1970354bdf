use Rattle.std.proofs.Common.{◌≡◌, ◌∙◌, Some, rules}
use Rattle.toml.specs.View.{view}
use Rattle.bq_workload_file.specs.Actions.{action_of}
use Rattle.bq_workload_file.proofs.EntryLemmas.{actions-more}
use Rattle.bq_workload_file.proofs.actions.actions.Goals as goal

pub loop-place-preserved : goal.loop-place-preserved
loop-place-preserved c =
    let v = c.index-values-place.result in
    let read : Some c.in-Ok.action ≡ action_of c.args.names.now (view v) = search rules in
    rw c.in_ok-push-in-Ok.ensures.items
    (c.loop-place.invariant
    ∙ actions-more c.args.names.now c.loop-place.actions.items c.args.values.now c.loop-place.place v c.in-Ok.action
    c.loop-place-test.true c.index-values-place.is read)
