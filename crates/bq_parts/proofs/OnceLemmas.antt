-- What an orderly world gives each processor: its tasks once, with small ids, and few of them.
use Rattle.std.proofs.Common.{◌≡◌, ◌≢◌, ℕ, zero, suc, ◌+◌, ◌<◌, ◌≤◌, Bool, true, false, eqb, List, [], ◌∷◌, ◌++◌, length, refl, ap, ◌∙◌, arith, inl, inr, get_or, length-append, ◌||◌}
use Rattle.std.specs.List.{list_any, AllByRecursion, IsDistinct}
use Rattle.std.proofs.lemmas.List.{get_or_past}
use Rattle.std.proofs.lemmas.Map.Steps.{length-le_from_distinct_below}
use Rattle.std.proofs.lemmas.Bool.{cases_lt}
use Rattle.std.proofs.lemmas.Bool.Decides.{nat_tests}
use Rattle.bq_disc.specs.Tasks.{Task}
use Rattle.bq_disc.specs.OneProcessor.{present_at}
use Rattle.bq_disc.specs.Movable.{ids}
use Rattle.bq_disc.proofs.QueueLemmas.{length-ids}
use Rattle.bq_parts.specs.declared.lobby_entry.LobbyEntry.TheVariants.{Absent}
use Rattle.bq_parts.specs.Processors.{Processor, new_processor, count_of_id, held_by, in_hand, HasEachOnce, HasIdsBelowTasks}
use Rattle.bq_parts.specs.World.{World, processor_at, inbox, entry_of_id}
use Rattle.bq_parts.specs.Refusals.{is_away}
use Rattle.bq_hooks.specs.Contexts.{as_number}
use Rattle.bq_parts.specs.Orderly.{held_count, placed_count, standing_count, IsOrderly}
use Rattle.bq_parts.proofs.CountLemmas.{one, one_self, count_of-append, HasEachOnce-left}

-- a processor's tasks are among those of all
pub held_le : (id : ℕ) (ps : List Processor) (processor : ℕ) → count_of_id id (held_by (get_or ps processor new_processor)) ≤ held_count id ps
held_le id [] processor = omega arith
held_le id (p ∷ ps) zero = omega arith
held_le id (p ∷ ps) (suc processor) = omega (arith, held_le id ps processor)

-- the tasks of two processors are among those of all
pub held_two : (id : ℕ) (ps : List Processor) (a b : ℕ) → a ≢ b
    → count_of_id id (held_by (get_or ps a new_processor)) + count_of_id id (held_by (get_or ps b new_processor)) ≤ held_count id ps
held_two id [] a b n = omega arith
held_two id (p ∷ ps) zero zero n = absurd (n refl)
held_two id (p ∷ ps) zero (suc b) n = omega (arith, held_le id ps b)
held_two id (p ∷ ps) (suc a) zero n = omega (arith, held_le id ps a)
held_two id (p ∷ ps) (suc a) (suc b) n = omega (arith, held_two id ps a b (λ e. n (ap suc e)))

-- an inbox's tasks are among those of all inboxes
pub placed_le : (id : ℕ) (xss : List (List Task)) (processor : ℕ) → count_of_id id (get_or xss processor []) ≤ placed_count id xss
placed_le id [] processor = omega arith
placed_le id (xs ∷ xss) zero = omega arith
placed_le id (xs ∷ xss) (suc processor) = omega (arith, placed_le id xss processor)

-- a truth counts at most 1
pub as_number_le : (b : Bool) → as_number b ≤ 1
as_number_le true = omega arith
as_number_le false = omega arith

-- in an orderly world no id stands twice
pub standing_once : (w : World) (id : ℕ) → IsOrderly w → standing_count id w ≤ 1
standing_once w id o = omega (arith, o.once.away id, as_number_le (is_away (entry_of_id w id)))

-- a processor's tasks are those present and the one in its hand
pub count_of-held_by : (id : ℕ) (p : Processor) → count_of_id id (held_by p) ≡ count_of_id id (present_at p.running) + count_of_id id (in_hand p)
count_of-held_by id p = count_of-append id (present_at p.running) (in_hand p)

-- a processor has each of its tasks once, with those of its inbox and its hand
pub once_at : (w : World) (processor : ℕ) → IsOrderly w
    → HasEachOnce (present_at (processor_at w processor).running ++ inbox w processor ++ in_hand (processor_at w processor))
once_at w processor o = λ id.
    let p : Processor = processor_at w processor in
    omega (
      arith,
      standing_once w id o,
      held_le id w.processors processor,
      placed_le id w.inboxes processor,
      count_of-held_by id p,
      count_of-append id (present_at p.running ++ inbox w processor) (in_hand p),
      count_of-append id (present_at p.running) (inbox w processor),
    )

-- in an orderly world each task stands once among those present at a processor and in its inbox
pub each_once_runnable : (w : World) (processor : ℕ) → IsOrderly w
    → HasEachOnce (present_at (processor_at w processor).running ++ inbox w processor)
each_once_runnable w processor o =
    HasEachOnce-left (present_at (processor_at w processor).running ++ inbox w processor) (in_hand (processor_at w processor))
    (once_at w processor o)

-- a processor has each of its tasks once, without its hand and its inbox
pub each_once_running : (w : World) (processor : ℕ) → IsOrderly w → HasEachOnce (present_at (processor_at w processor).running)
each_once_running w processor o =
    HasEachOnce-left (present_at (processor_at w processor).running) (inbox w processor) (each_once_runnable w processor o)

-- an id beyond the lobby stands nowhere
pub none_beyond : (w : World) (id : ℕ) → length w.lobby ≡ 1024 → IsOrderly w → 1024 ≤ id → standing_count id w ≡ 0
none_beyond w id l o h =
    let past : entry_of_id w id ≡ Absent = get_or_past w.lobby id Absent (omega arith) in
    o.once.away id ∙ ap (λ s. as_number (is_away s)) past

-- a processor's tasks have no id beyond the lobby
pub none_beyond_at : (w : World) (processor id : ℕ) → length w.lobby ≡ 1024 → IsOrderly w → 1024 ≤ id
    → count_of_id id (present_at (processor_at w processor).running ++ inbox w processor) ≡ 0
none_beyond_at w processor id l o h =
    let p : Processor = processor_at w processor in
    omega (
      arith,
      none_beyond w id l o h,
      held_le id w.processors processor,
      placed_le id w.inboxes processor,
      count_of-held_by id p,
      count_of-append id (present_at p.running) (inbox w processor),
    )

-- the tasks that run or wait at a processor have ids below TASKS
pub ids_running : (w : World) (processor : ℕ) → length w.lobby ≡ 1024 → IsOrderly w
    → HasIdsBelowTasks (present_at (processor_at w processor).running)
ids_running w processor l o = λ id h. omega (
  arith,
  none_beyond_at w processor id l o h,
  count_of-append id (present_at (processor_at w processor).running) (inbox w processor),
)

-- the first of some tasks has an id below a bound from which none stands there
head_below : (x : Task) (m n : ℕ) → (n ≤ x.id → one x.id x + m ≡ 0) → x.id < n
head_below x m n h = elim (cases_lt x.id n) [ inl l ↦ l | inr g ↦ absurd (omega (arith, one_self x, h g)) ]

-- two processors have each of their tasks once, together
pub each_once_two : (w : World) (processor from : ℕ) → processor ≢ from → IsOrderly w
    → HasEachOnce (present_at (processor_at w processor).running ++ present_at (processor_at w from).running)
each_once_two w processor from n o = λ id.
    let p : Processor = processor_at w processor in
    let q : Processor = processor_at w from in
    omega (
      arith,
      standing_once w id o,
      held_two id w.processors processor from n,
      count_of-held_by id p,
      count_of-held_by id q,
      count_of-append id (present_at p.running) (present_at q.running),
    )

-- two processors have no task with an id of TASKS or more
pub ids_two : (w : World) (processor from : ℕ) → length w.lobby ≡ 1024 → IsOrderly w
    → HasIdsBelowTasks (present_at (processor_at w processor).running ++ present_at (processor_at w from).running)
ids_two w processor from l o = λ id h.
    omega (
      arith,
      ids_running w processor l o id h,
      ids_running w from l o id h,
      count_of-append id (present_at (processor_at w processor).running) (present_at (processor_at w from).running),
    )

-- an id that counts 0 differs from each id there, by cases: of the first task, of all
apart_step : (x : Task) (i : ℕ) (n : ℕ) → one i x + n ≡ 0 → eqb i x.id ≡ false
apart_step x i n h = grind (arith, nat_tests)

apart : (i : ℕ) (xs : List Task) → count_of_id i xs ≡ 0 → AllByRecursion (λ y. eqb i y ≡ false) (ids xs)
apart i [] h = tt
apart i (x ∷ xs) h = (apart_step x i (count_of_id i xs) h, apart i xs (omega arith))

-- tasks of which no id stands twice have distinct ids
distinct : (xs : List Task) → HasEachOnce xs → IsDistinct eqb (ids xs)
unfolding IsDistinct
distinct [] h = tt
distinct (x ∷ xs) h = (apart x.id xs (omega (arith, one_self x, h x.id)), distinct xs (λ id. omega (arith, h id)))

-- if no id from n on is counted, each id there is below n, by cases: the first task's and the rest's, all
below_by_test : (q i n : ℕ) (c b : Bool) → eqb q i ≡ b → i < n → (b || c) ≡ true → (c ≡ true → q < n) → q < n
below_by_test q i n c true e l k rest = grind (arith, nat_tests)
below_by_test q i n c false e l k rest = rest k

all_below : (xs : List Task) (n q : ℕ) → ((id : ℕ) → n ≤ id → count_of_id id xs ≡ 0) → list_any (eqb q) (ids xs) ≡ true → q < n
all_below [] n q h k = cc
all_below (x ∷ xs) n q h k =
    below_by_test q x.id n (list_any (eqb q) (ids xs)) (eqb q x.id) refl (head_below x (count_of_id x.id xs) n (h x.id)) k
    (all_below xs n q (λ id l. omega (arith, h id l)))

-- tasks with ids below n, of which none stands twice, are at most n
pub few_below : (xs : List Task) (n : ℕ) → HasEachOnce xs → ((id : ℕ) → n ≤ id → count_of_id id xs ≡ 0) → length xs ≤ n
few_below xs n h k = rw length-ids at (length-le_from_distinct_below (ids xs) n (distinct xs h) (λ q a. all_below xs n q k a))

-- a processor has at most 1024 tasks, with those of its inbox
pub few_at : (w : World) (processor : ℕ) → length w.lobby ≡ 1024 → IsOrderly w
    → length (present_at (processor_at w processor).running) + length (inbox w processor) ≤ 1024
few_at w processor l o =
    let xs : List Task = present_at (processor_at w processor).running in
    omega (
      arith,
      length-append xs (inbox w processor),
      few_below (xs ++ inbox w processor) 1024 (each_once_runnable w processor o)
          (λ id h. none_beyond_at w processor id l o h),
    )
