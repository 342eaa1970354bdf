use Rattle.std.proofs.Common.{ℕ, ◌<◌}
use Rattle.bq_verify.specs.Faults.{HasFault}
use Rattle.bq_verify.proofs.checks.check_for.Given as goal

abbrev pub invariant-loop-slot : goal.invariant-loop-slot
invariant-loop-slot l = (j : ℕ) → j < l.slot → HasFault l.slots l.cause j → ⊥
