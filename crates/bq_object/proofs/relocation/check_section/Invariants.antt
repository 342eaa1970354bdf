use Rattle.std.proofs.Common.{ℕ, ◌<◌}
use Rattle.bq_object.specs.Relocations.{IsRelocation, HoldsOffset}
use Rattle.bq_object.proofs.relocation.check_section.Given as goal

-- no relocation so far changes the function
abbrev pub invariant-loop-index : goal.invariant-loop-index
invariant-loop-index l = (k : ℕ) → k < l.index → (at kind : ℕ) → IsRelocation l.entries l.size k at kind → HoldsOffset l.policy at → ⊥
