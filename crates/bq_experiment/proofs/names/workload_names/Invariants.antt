use Rattle.std.proofs.Common.{map, string_bytes, take}
use Rattle.bq_experiment.specs.Names.{LearnsAll}
use Rattle.bq_experiment.proofs.names.workload_names.Given as goal

-- this many comments gave names
abbrev pub invariant-comments : goal.invariant-comments
invariant-comments l = LearnsAll (map string_bytes (take l.comment-index l.comment-items)) l.initial.names l.names
