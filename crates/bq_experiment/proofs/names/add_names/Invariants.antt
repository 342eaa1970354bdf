use Rattle.std.proofs.Common.{◌≡◌, ◌++◌, map, string_bytes}
use Rattle.std.specs.List.{range_with_len}
use Rattle.bq_experiment.specs.Names.{name_of_task}
use Rattle.bq_experiment.proofs.names.add_names.Given as goal

-- this many tasks of the kind have their names
abbrev pub invariant-numbers : goal.invariant-numbers
invariant-numbers l =
    map string_bytes l.names.items ≡ map string_bytes l.initial.names.items ++ map (name_of_task l.kind) (range_with_len 0 l.number)
