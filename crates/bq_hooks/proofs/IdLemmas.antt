-- Ids of tasks have 16 bits, so a greater number names no task.
use Rattle.std.proofs.Common.{◌≡◌, ℕ, ◌<◌, ◌≤◌, ◌^◌, false, List, [], ◌∷◌, None, refl, arith}
use Rattle.std.proofs.lemmas.Bool.Decides.{nat_tests}
use Rattle.bq_disc.specs.Tasks.{Task, has_id, find_task}
use Rattle.bq_disc.specs.Queues.{HasSmallIds}
use Rattle.bq_disc.specs.Movable.{is_movable_to}

-- a number of more than 16 bits is not the id of a task, and a search for it in a list of tasks finds none:
other : (id : ℕ) (t : Task) → t.id < 2 ^ 16 → 2 ^ 16 ≤ id → has_id id t ≡ false
other id t h k = grind (arith, nat_tests)

nobody_there : (id : ℕ) (xs : List Task) → HasSmallIds xs → 2 ^ 16 ≤ id → find_task id xs ≡ None
nobody_there id [] h k = refl
nobody_there id (x ∷ xs) h k = rw (other id x h.0 k) (nobody_there id xs h.1 k)

-- a number too great for 16 bits names no task that may go to the puller
pub not_movable_beyond_ids : (puller id : ℕ) (xs : List Task) → HasSmallIds xs → 2 ^ 16 ≤ id → is_movable_to puller id xs ≡ false
not_movable_beyond_ids puller id xs h k = rw (nobody_there id xs h k) refl
