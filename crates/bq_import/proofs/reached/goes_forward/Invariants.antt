use Rattle.std.proofs.Common.{ℕ, ◌<◌}
use Rattle.bq_import.specs.Keeping.{LeadsForward}
use Rattle.bq_import.proofs.reached.goes_forward.Given as goal

abbrev pub invariant-loop-slot : goal.invariant-loop-slot
invariant-loop-slot l = (k : ℕ) → k < l.slot → LeadsForward l.old k
