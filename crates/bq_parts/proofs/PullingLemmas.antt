-- What two processors, whose tasks together stand once, give a task that goes from the one's queue to the other's.
use Rattle.std.proofs.Common.{◌≡◌, ℕ, ◌≤◌, ◌++◌, List, length, Option, Some, None, refl, sym, subst, arith}
use Rattle.std.specs.Prelude.{IfSome}
use Rattle.std.specs.Option.{option_map}
use Rattle.bq_disc.specs.Tasks.{Task, find_task, present}
use Rattle.bq_disc.specs.Discipline.{Discipline, left_at}
use Rattle.bq_disc.specs.Queues.{HasDistinctIds}
use Rattle.bq_disc.specs.OneProcessor.{Running, present_at, charge, marked}
use Rattle.bq_parts.specs.Processors.{HasEachOnce, HasIdsBelowTasks}
use Rattle.bq_parts.specs.Moves.{taken_from, without_task}
use Rattle.bq_disc.proofs.SetLemmas.{find_task-id}
use Rattle.bq_parts.proofs.CountLemmas.{one, one_self, count_of-append, count_of-without, queue_le_present, find_task-absent, each_once_queue, HasEachOnce-left, HasEachOnce-right, HasDistinctIds-from_counts}
use Rattle.bq_parts.proofs.OnceLemmas.{few_below}

-- where all ids of two lists together are ids, those of the left one are
pub ids_left : (xs ys : List Task) → HasIdsBelowTasks (xs ++ ys) → HasIdsBelowTasks xs
ids_left xs ys h = λ id l. omega (arith, h id l, count_of-append id xs ys)

-- where all ids of two lists together are ids, those of the right one are
pub ids_right : (xs ys : List Task) → HasIdsBelowTasks (xs ++ ys) → HasIdsBelowTasks ys
ids_right xs ys h = λ id l. omega (arith, h id l, count_of-append id xs ys)

-- a processor has at most as many tasks as the lobby has entries
few_running : (p : Running) → HasEachOnce (present_at p) → HasIdsBelowTasks (present_at p) → length (present_at p) ≤ 1024
few_running p h k = few_below (present_at p) 1024 h k

-- a change of the current task, if there is one, leaves the number of tasks
size_by_case : (f : Task → Task) (o : Option Task) (queue : List Task) → length (present (option_map f o) queue) ≡ length (present o queue)
size_by_case f None queue = refl
size_by_case f (Some t) queue = refl

-- the puller, once charged, has no more tasks than the lobby has entries
pub puller_within_lobby : (d : Discipline) (p q : Running) (now : ℕ)
    → HasEachOnce (present_at p ++ present_at q) → HasIdsBelowTasks (present_at p ++ present_at q)
    → length (present_at (charge d p now)) ≤ 1024
puller_within_lobby d p q now h k =
    let same : length (present_at (charge d p now)) ≡ length (present_at p) = size_by_case _ p.current p.queue in
    omega (arith, same, few_running p (HasEachOnce-left (present_at p) (present_at q) h) (ids_left (present_at p) (present_at q) k))

-- the source has no more tasks than the lobby has entries either
pub source_within_lobby : (p q : Running) → HasEachOnce (present_at p ++ present_at q)
    → HasIdsBelowTasks (present_at p ++ present_at q)
    → length (present_at q) ≤ 1024
source_within_lobby p q h k = few_running q (HasEachOnce-right (present_at p) (present_at q) h) (ids_right (present_at p) (present_at q) k)

-- the source's ids are distinct
pub source_distinct : (p q : Running) → HasEachOnce (present_at p ++ present_at q) → HasDistinctIds q.queue
source_distinct p q h = HasDistinctIds-from_counts q.queue (each_once_queue q (HasEachOnce-right (present_at p) (present_at q) h))

-- a task of the source's queue is not in the puller's
pulled_free : (p q : Running) (id : ℕ) (t : Task) → HasEachOnce (present_at p ++ present_at q) → find_task id q.queue ≡ Some t
    → find_task t.id p.queue ≡ None
pulled_free p q id t h f =
    let itself : one id t ≡ 1 = subst (λ i. one i t ≡ 1) (find_task-id id q.queue t f) (one_self t) in
    let free : find_task id p.queue ≡ None =
    find_task-absent id p.queue (omega (
      arith,
      h id,
      count_of-append id (present_at p) (present_at q),
      queue_le_present id p.current p.queue,
      queue_le_present id q.current q.queue,
      count_of-without id id q.queue t f,
      itself,
    )) in
    subst (λ i. find_task i p.queue ≡ None) (sym (find_task-id id q.queue t f)) free

-- the task that leaves the source's queue, if there is one, has an id that is free at the puller
fresh_by_case : (id mark : ℕ) (xs ys : List Task) (o : Option Task)
    → find_task id xs ≡ o → ((t : Task) → find_task id xs ≡ Some t → find_task t.id ys ≡ None)
    → IfSome (option_map (left_at mark) o) (λ t. find_task t.id ys ≡ None)
fresh_by_case id mark xs ys None e h = tt
fresh_by_case id mark xs ys (Some t) e h = h t e

-- the id of a task of the source's queue is free at the puller
pub taken_fresh : (d : Discipline) (p q : Running) (now : ℕ) (task : Option ℕ) → HasEachOnce (present_at p ++ present_at q) →
    IfSome (taken_from (marked d q) task) (λ t. find_task t.id (charge d p now).queue ≡ None)
taken_fresh d p q now None h = tt
taken_fresh d p q now (Some id) h =
    fresh_by_case id (marked d q).mark q.queue p.queue (find_task id q.queue) refl (λ t e. pulled_free p q id t h e)

-- a task that leaves the queue leaves the current one as it is
pub current-without_task : (p : Running) (o : Option ℕ) → (without_task p o).current ≡ p.current
current-without_task p None = refl
current-without_task p (Some id) = refl
