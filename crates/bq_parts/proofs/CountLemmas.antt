-- How often an id stands among some tasks, and what of it stays while tasks come, go and run.
use Rattle.std.proofs.Common.{◌≡◌, ℕ, ◌+◌, ◌≤◌, Bool, true, false, cond, eqb, List, [], ◌∷◌, ◌++◌, Option, Some, None, refl, sym, ap, arith}
use Rattle.std.proofs.lemmas.Bool.Decides.{nat_tests}
use Rattle.bq_disc.specs.Tasks.{Task, has_id, find_task, without, inserted, present}
use Rattle.bq_disc.specs.Queues.{HasDistinctIds}
use Rattle.bq_disc.specs.Discipline.{Discipline, next_of}
use Rattle.bq_disc.specs.OneProcessor.{Running, present_at, charge, switched, enter_all}
use Rattle.bq_disc.proofs.SetLemmas.{find_task-id}
use Rattle.bq_parts.specs.Processors.{count_of_id, HasEachOnce}
use Rattle.bq_parts.proofs.TallyLemmas

-- 1 for a task of that id
abbrev pub one : ℕ → Task → ℕ
one id t = cond (has_id id t) 1 0

-- the tally that counts 1 for one id, and 0 for all others
abbrev pub ones : ℕ → ℕ → ℕ → ℕ
ones id i mask = cond (eqb i id) 1 0

-- a count is a tally
pub count_of-tally : (id : ℕ) (xs : List Task) → count_of_id id xs ≡ TallyLemmas.tally (ones id) xs
count_of-tally id [] = refl
count_of-tally id (x ∷ xs) = ap (λ n. one id x + n) (count_of-tally id xs)

-- the count of two lists together is the sum of their counts
pub count_of-append : (id : ℕ) (xs ys : List Task) → count_of_id id (xs ++ ys) ≡ count_of_id id xs + count_of_id id ys
count_of-append id [] ys = omega arith
count_of-append id (x ∷ xs) ys = omega (arith, count_of-append id xs ys)

-- a task that comes adds one to its count
pub count_of-inserted : (id : ℕ) (t : Task) (xs : List Task) → count_of_id id (inserted t xs) ≡ one id t + count_of_id id xs
count_of-inserted id t xs = omega (arith, count_of-tally id (inserted t xs), count_of-tally id xs, TallyLemmas.tally-inserted (ones id) t xs)

-- what is taken was there one time more
pub count_of-without : (i j : ℕ) (xs : List Task) (t : Task) → find_task j xs ≡ Some t → count_of_id i xs ≡ one i t + count_of_id i (without j xs)
count_of-without i j xs t h =
    omega (arith, count_of-tally i (without j xs), count_of-tally i xs, TallyLemmas.tally-without (ones i) j xs t h)

-- a task has its own id
pub one_self : (t : Task) → one t.id t ≡ 1
one_self t = grind (arith, nat_tests)

-- an id that counts 0 is not found, neither as the first task's nor in the rest
absent_by_test : (b : Bool) (x : Task) (n : ℕ) (o : Option Task) → cond b 1 0 + n ≡ 0 → (n ≡ 0 → o ≡ None) → cond b (Some x) o ≡ None
absent_by_test true x n o h rest = absurd (omega arith)
absent_by_test false x n o h rest = rest (omega arith)

-- no task of that id is there
pub find_task-absent : (id : ℕ) (xs : List Task) → count_of_id id xs ≡ 0 → find_task id xs ≡ None
find_task-absent id [] h = refl
find_task-absent id (x ∷ xs) h = absent_by_test (eqb x.id id) x (count_of_id id xs) (find_task id xs) h (find_task-absent id xs)

-- the queue is a part of what is present
pub queue_le_present : (id : ℕ) (o : Option Task) (xs : List Task) → count_of_id id xs ≤ count_of_id id (present o xs)
queue_le_present id None xs = omega arith
queue_le_present id (Some t) xs = omega arith

-- what is present once is queued once
pub each_once_queue : (p : Running) → HasEachOnce (present_at p) → HasEachOnce p.queue
each_once_queue p h = λ id. omega (arith, h id, queue_le_present id p.current p.queue)

-- a current task is not in the queue
pub current_apart : (p : Running) (t : Task) → HasEachOnce (present_at p) → p.current ≡ Some t → find_task t.id p.queue ≡ None
current_apart p t s e =
    let h = s t.id in
    let k : count_of_id t.id (t ∷ p.queue) ≤ 1 = rw e at h in
    find_task-absent t.id p.queue (omega (arith, one_self t))

-- the next is the current one: nothing changes
pub switched_same : (d : Discipline) (p : Running) (t : Task)
    → HasEachOnce (present_at p) → p.current ≡ Some t → t.id ≡ next_of d t p.queue
    → switched d p p.current ≡ p
switched_same d p t s e i = rw (e, ← i, current_apart p t s e) refl

-- the next is not in the queue: nothing changes
pub switched_absent : (d : Discipline) (p : Running) (t : Task) (id : ℕ)
    → p.current ≡ Some t → id ≡ next_of d t p.queue → find_task id p.queue ≡ None → switched d p p.current ≡ p
switched_absent d p t id e i f = rw (e, ← i, f) refl

-- the next runs, and the current one stands in the queue
pub switched_to : (d : Discipline) (p : Running) (t n : Task) (id : ℕ)
    → p.current ≡ Some t → id ≡ next_of d t p.queue → Some n ≡ find_task id p.queue
    → switched d p p.current ≡ record p { current = Some n; queue = inserted t (without id p.queue) }
switched_to d p t n id e i f = rw (e, ← i, ← f, find_task-id id p.queue n (sym f)) refl

-- the current task is not in the rest of the queue either
pub current_apart_without : (p : Running) (t n : Task) (id : ℕ)
    → HasEachOnce (present_at p) → p.current ≡ Some t → find_task id p.queue ≡ Some n
    → find_task t.id (without id p.queue) ≡ None
current_apart_without p t n id s e f =
    let h = s t.id in
    let k : count_of_id t.id (t ∷ p.queue) ≤ 1 = rw e at h in
    find_task-absent t.id (without id p.queue) (omega (arith, one_self t, count_of-without t.id id p.queue n f))

-- tasks of which no id stands twice have distinct ids
pub HasDistinctIds-from_counts : (xs : List Task) → HasEachOnce xs → HasDistinctIds xs
HasDistinctIds-from_counts [] h = tt
HasDistinctIds-from_counts (x ∷ xs) h =
    (find_task-absent x.id xs (omega (arith, one_self x, h x.id)), HasDistinctIds-from_counts xs (λ id. omega (arith, h id)))

-- what stays by every tally stays by every count
same_count : (id : ℕ) (p q : Running) → TallyLemmas.tally (ones id) (present_at q) ≡ TallyLemmas.tally (ones id) (present_at p)
    → count_of_id id (present_at q) ≡ count_of_id id (present_at p)
same_count id p q h = omega (arith, count_of-tally id (present_at p), count_of-tally id (present_at q), h)

-- to charge the current task keeps how often each id stands there
pub keeps_charge : (id : ℕ) (d : Discipline) (p : Running) (now : ℕ)
    → count_of_id id (present_at (charge d p now)) ≡ count_of_id id (present_at p)
keeps_charge id d p now = same_count id p (charge d p now) (TallyLemmas.tally-charge (ones id) d p now)

-- tasks that enter a processor are counted beside those that were there
pub count_of-enter_all : (id : ℕ) (d : Discipline) (p : Running) (tasks : List Task)
    → count_of_id id (present_at (enter_all d p tasks)) ≡ count_of_id id (present_at p) + count_of_id id tasks
count_of-enter_all id d p tasks =
    omega (
      arith,
      count_of-tally id (present_at (enter_all d p tasks)),
      count_of-tally id (present_at p),
      count_of-tally id tasks,
      TallyLemmas.tally-enter_all (ones id) d p tasks,
    )

-- where each task stands once, each still does after a charge
pub HasEachOnce-charge : (d : Discipline) (p : Running) (now : ℕ) → HasEachOnce (present_at p) → HasEachOnce (present_at (charge d p now))
HasEachOnce-charge d p now h = λ id. omega (arith, h id, keeps_charge id d p now)

-- the left part of a list that has each task once has each once too
pub HasEachOnce-left : (xs ys : List Task) → HasEachOnce (xs ++ ys) → HasEachOnce xs
HasEachOnce-left xs ys h = λ id. omega (arith, h id, count_of-append id xs ys)

-- the right part of a list that has each task once has each once too
pub HasEachOnce-right : (xs ys : List Task) → HasEachOnce (xs ++ ys) → HasEachOnce ys
HasEachOnce-right xs ys h = λ id. omega (arith, h id, count_of-append id xs ys)
