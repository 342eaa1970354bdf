use Rattle.std.proofs.Common.{◌≡◌, ◌++◌, filter}
use Rattle.std.specs.List.{flat_map, range_with_len}
use Rattle.std.specs.String.{string_bytes}
use Rattle.bq_maps.specs.Arrays.{entry_of}
use Rattle.bq_policy_run.specs.Changes.{entry_line, is_changed, with_contents}
use Rattle.bq_policy_run.proofs.changes.write_map.Given as goal

-- the lines of the entries so far
abbrev pub invariant-loop-entry : goal.invariant-loop-entry
invariant-loop-entry l =
    string_bytes l.text
    ≡ string_bytes l.fn.text
    ++ flat_map (λ k. entry_line l.number k (entry_of l.maps l.number k))
    (filter (is_changed (with_contents l.maps l.before) l.maps l.number) (range_with_len 0 l.entry))
