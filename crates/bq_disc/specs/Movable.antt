-- The tasks of a queue that may go to a processor, the greatest (v, id) first.
use Rattle.std.specs.Prelude.{◌≡◌, ℕ, ◌+◌, ◌≤◌, Bool, false, List, ◌++◌, length, map, filter, reverse, take}
use Rattle.std.specs.Option.{option_map_or}
use Rattle.bq_disc.specs.Tasks.{Task, find_task}
use Rattle.bq_disc.specs.Queues.{can_use}
use Rattle.bq_disc.specs.declared.movable.Movable.{Movable}
use Rattle.bq_disc.specs.declared.movable.TheConstants.{MOST_NAMED}

-- the tasks that may use a processor, the greatest (v, id) first
abbrev pub movable_to : ℕ → List Task → List Task
movable_to processor xs = reverse (filter (can_use processor) xs)

-- the ids of some tasks
abbrev pub ids : List Task → List ℕ
ids xs = map (λ (t : Task). t.id) xs

-- whether the task with this id is there and may go to a processor
abbrev pub is_movable_to : ℕ → ℕ → List Task → Bool
is_movable_to processor id xs = option_map_or (can_use processor) (find_task id xs) false

-- one more stretch of the queue, looked at from its last task to its first, takes the tally from `old` to `new`
pub record AddsMovable (processor : ℕ) (xs : List Task) (old new : Movable) : Type 0 where
  pub count : new.count ≡ old.count + length (movable_to processor xs)
  pub first : new.first.items ≡ take MOST_NAMED (old.first.items ++ ids (movable_to processor xs))
  pub fits : length new.first.items ≤ MOST_NAMED
