-- Queues at the start.
use Rattle.std.specs.Prelude.{◌≡◌, ℕ, List, [], All}
use Rattle.bq_disc.specs.declared.limits.TheConstants.{FIRST_MARK}

-- each of the queues has no tasks, and is at the first mark
abbrev pub AreFresh : {Q T : Type 0} → (Q → List T) → (Q → ℕ) → List Q → Type 0
AreFresh members last_mark queues = All (λ q. (members q ≡ []) × (last_mark q ≡ FIRST_MARK)) queues
