-- A tree of least numbers, written level by level: what is at k is the less of what is at 2k and at 2k + 1. The leaves follow the inner
-- nodes: one for each rank of what may come due, and spare leaves after them.
use Rattle.std.specs.Prelude.{◌≡◌, ◌≢◌, ℕ, ◌+◌, ◌*◌, ◌%◌, ◌<◌, ◌≤◌, ◌⊎◌, List, slice_index, min, Option, Some, None}
use Rattle.bq_workload.specs.declared.due.TheConstants.{RANKS}
use Rattle.bq_workload.specs.declared.event_queue.TheConstants.{INSTANT, LEAVES, NEVER}

-- the number for what is never due: above all others
abbrev pub never_due : ℕ
never_due = NEVER

-- what is due at a time is ordered by that time and then by its rank
abbrev pub due_number : ℕ → Option ℕ → ℕ
due_number rank None = never_due
due_number rank (Some time) = time * INSTANT + rank

-- the number of a rank
abbrev pub at_rank : List ℕ → ℕ → ℕ
at_rank xs rank = slice_index xs (LEAVES + rank)

-- the number at a node is the less of the two below it
abbrev pub IsLess : List ℕ → ℕ → Type 0
IsLess xs k = slice_index xs k ≡ min (slice_index xs (2 * k)) (slice_index xs (2 * k + 1))

-- each inner number is the less of the two below it
abbrev pub HasMinima : List ℕ → Type 0
HasMinima xs = (k : ℕ) → 1 ≤ k → k < LEAVES → IsLess xs k

-- each but this one
abbrev pub HasOtherMinima : ℕ → List ℕ → Type 0
HasOtherMinima but xs = (k : ℕ) → 1 ≤ k → k < LEAVES → k ≢ but → IsLess xs k

-- each leaf is never due, or its number is of its rank
abbrev pub AreLeavesRanked : List ℕ → Type 0
AreLeavesRanked xs = (rank : ℕ) → rank < LEAVES → (at_rank xs rank ≡ never_due) ⊎ ((at_rank xs rank % LEAVES ≡ rank) × (at_rank xs rank < never_due))

-- after the leaves of the ranks nothing is ever due
abbrev pub HasSpareLeaves : List ℕ → Type 0
HasSpareLeaves xs = (rank : ℕ) → RANKS ≤ rank → rank < LEAVES → at_rank xs rank ≡ never_due

-- no other leaf is changed
abbrev pub ChangesOnly : ℕ → List ℕ → List ℕ → Type 0
ChangesOnly rank xs ys = (k : ℕ) → k < LEAVES → k ≢ rank → at_rank ys k ≡ at_rank xs k

-- nothing is ever due
abbrev pub AreNever : List ℕ → Type 0
AreNever xs = (rank : ℕ) → rank < LEAVES → at_rank xs rank ≡ never_due

-- the thing at the rank is due then, and nothing is due before it
pub record IsFirstDue (xs : List ℕ) (time rank : ℕ) : Type 0 where
  pub within : rank < LEAVES
  pub taken : at_rank xs rank ≡ time * INSTANT + rank
  pub bound : (other : ℕ) → other < LEAVES → time * INSTANT + rank ≤ at_rank xs other
