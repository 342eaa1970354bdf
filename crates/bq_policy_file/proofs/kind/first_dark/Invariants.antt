use Rattle.std.proofs.Common.{◌≡◌, length}
use Rattle.bq_policy_file.specs.Files.{first_dark}
use Rattle.bq_policy_file.proofs.kind.first_dark.Given as goal

abbrev pub invariant-loop-rest : goal.invariant-loop-rest
invariant-loop-rest l = first_dark l.rest ≡ first_dark l.bytes

abbrev pub decreases-loop-rest : goal.decreases-loop-rest
decreases-loop-rest l = length l.rest
