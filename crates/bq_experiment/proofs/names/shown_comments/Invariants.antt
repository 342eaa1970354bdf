use Rattle.std.proofs.Common.{◌≡◌, map, string_bytes, take}
use Rattle.bq_experiment.specs.Names.{comments_by, shown_name}
use Rattle.bq_experiment.proofs.names.shown_comments.Given as goal

-- this many tasks have their comments
abbrev pub invariant-names : goal.invariant-names
invariant-names l = map string_bytes l.comments.items ≡ comments_by shown_name 0 (map string_bytes (take l.task-counter l.name-items))
