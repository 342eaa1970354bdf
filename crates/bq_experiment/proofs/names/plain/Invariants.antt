use Rattle.std.proofs.Common.{◌≡◌, map, string_bytes}
use Rattle.bq_experiment.specs.Names.{plain_of}
use Rattle.bq_experiment.proofs.names.plain.Given as goal

-- what stands there is plain
abbrev pub invariant-loop-letter : goal.invariant-loop-letter
invariant-loop-letter l = string_bytes l.text ≡ map plain_of l.yielded
