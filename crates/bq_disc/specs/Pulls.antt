-- The task that an emptier processor takes from another's queue if no policy chooses it. The rule is this project's own and
-- does not depend on the discipline.
use Rattle.std.specs.Prelude.{◌≡◌, ℕ, ◌+◌, ◌≤◌, Bool, true, false, nat_le, List, Option, None, Contains, IsSome, IfSome, filter, if◌then◌else◌}
use Rattle.bq_disc.specs.Tasks.{Task, first_by, runs_before}
use Rattle.bq_disc.specs.Queues.{HasDistinctIds, can_use}
use Rattle.bq_disc.specs.Discipline.{SameSet}

-- whether a task is pulled before another: the one of greater (v, id) is
abbrev pub pulled_before : Task → Task → Bool
pulled_before a b = runs_before b a

-- the tasks of a queue that may go to a processor
abbrev pub movable : ℕ → List Task → List Task
movable processor queue = filter (can_use processor) queue

-- the task to pull: `puller_size` tasks run or wait at the puller and `source_size` at the other processor; if `source_size`
-- is at least two more, it is the movable task of greatest (v, id) of the other's queue
abbrev pub pull_of : ℕ → ℕ → ℕ → List Task → Option Task
pull_of processor puller_size source_size queue = if nat_le (puller_size + 2) source_size then first_by pulled_before (movable processor queue) else None

-- the laws of pulling: a task is pulled exactly when the other processor has at least two more tasks and some task of its
-- queue may use the puller; the pulled task is such a task; none of them has a greater (v, id); and equal sets of tasks give
-- equal pulls, in whatever order they are listed
pub record IsLawfulPull (pull : ℕ → ℕ → ℕ → List Task → Option Task) : Type 0 where
  pub exists : (processor puller_size source_size : ℕ) (queue : List Task) (t : Task) → puller_size + 2 ≤ source_size → Contains queue t → can_use processor t ≡ true → IsSome (pull processor puller_size source_size queue)
  pub fewer : (processor puller_size source_size : ℕ) (queue : List Task) → IfSome (pull processor puller_size source_size queue) (λ t. puller_size + 2 ≤ source_size)
  pub member : (processor puller_size source_size : ℕ) (queue : List Task) → IfSome (pull processor puller_size source_size queue) (λ t. Contains queue t × (can_use processor t ≡ true))
  pub greatest : (processor puller_size source_size : ℕ) (queue : List Task) → IfSome (pull processor puller_size source_size queue) (λ t. (u : Task) → Contains queue u → can_use processor u ≡ true → runs_before t u ≡ false)
  pub same : (processor puller_size source_size : ℕ) (xs ys : List Task) → HasDistinctIds xs → HasDistinctIds ys → SameSet xs ys → pull processor puller_size source_size xs ≡ pull processor puller_size source_size ys
