use Rattle.std.proofs.Common.{◌≡◌, [], drop}
use Rattle.toml.specs.View.{items_view}
use Rattle.bq_workload_file.specs.Actions.{actions_with}
use Rattle.bq_workload_file.proofs.actions.actions.Given as goal

-- the actions of the list are those so far and those of the rest of it
abbrev pub invariant-loop-place : goal.invariant-loop-place
invariant-loop-place l =
    actions_with l.fn.names [] (items_view l.fn.values)
    ≡ actions_with l.fn.names l.actions.items (items_view (drop l.place l.fn.values))
