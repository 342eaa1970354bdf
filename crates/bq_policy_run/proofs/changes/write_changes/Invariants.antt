use Rattle.std.proofs.Common.{◌≡◌, ◌++◌}
use Rattle.std.specs.List.{flat_map, range_with_len}
use Rattle.std.specs.String.{string_bytes}
use Rattle.bq_policy_run.specs.Changes.{map_changes, with_contents}
use Rattle.bq_policy_run.proofs.changes.write_changes.Given as goal

-- the lines of the maps so far
abbrev pub invariant-loop-number : goal.invariant-loop-number
invariant-loop-number l =
    string_bytes l.text
    ≡ string_bytes l.fn.text
    ++ flat_map (map_changes (with_contents l.inputs.maps l.before) l.inputs.maps) (range_with_len 0 l.number)
