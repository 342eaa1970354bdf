-- What a queue keeps when a task comes or goes: distinct ids and ids of 16 bits; and that it is longer or shorter by one.
use Rattle.std.proofs.Common.{◌≡◌, ℕ, suc, ◌+◌, ◌<◌, ◌≤◌, ◌^◌, Bool, true, false, cond, ◌||◌, eqb, List, [], ◌∷◌, length, Option, Some, None, refl, ap, ◌∙◌, arith, eqb-true}
use Rattle.std.specs.Prelude.{IsSome}
use Rattle.std.specs.List.{list_any, AllByRecursion, IsDistinct}
use Rattle.std.proofs.lemmas.Bool.Decides.{nat_tests}
use Rattle.std.proofs.lemmas.Map.Steps.{length-le_from_distinct_below}
use Rattle.bq_disc.specs.Tasks.{Task, find_task, without, inserted, runs_before}
use Rattle.bq_disc.specs.Queues.{HasDistinctIds, HasSmallIds}
use Rattle.bq_disc.specs.Movable.{ids}

-- numbers that fail the test for equality fail it the other way round too
pub eqb_comm : (a b : ℕ) → eqb a b ≡ false → eqb b a ≡ false
eqb_comm a b h = grind (arith, nat_tests)

-- where a test would find one and none is found, the test fails and none is in the rest
pub cond_none : (b : Bool) (x : Task) (o : Option Task) → cond b (Some x) o ≡ None → (b ≡ false) × (o ≡ None)
cond_none true x o h = cc
cond_none false x o h = (refl, h)

-- no task of that id is in a list: not its first, and not in the rest
pub find_task-none : (i : ℕ) (x : Task) (xs : List Task) → find_task i (x ∷ xs) ≡ None → (eqb x.id i ≡ false) × (find_task i xs ≡ None)
find_task-none i x xs h = cond_none (eqb x.id i) x (find_task i xs) h

-- if no task has an id, each id of the list differs from it
apart : (i : ℕ) (xs : List Task) → find_task i xs ≡ None → AllByRecursion (λ y. eqb i y ≡ false) (ids xs)
apart i [] h = tt
apart i (x ∷ xs) h =
    let s = find_task-none i x xs h in
    (eqb_comm x.id i s.0, apart i xs s.1)

-- no two of the ids of tasks with distinct ids are equal
distinct : (xs : List Task) → HasDistinctIds xs → IsDistinct eqb (ids xs)
unfolding IsDistinct
distinct [] d = tt
distinct (x ∷ xs) d = (apart x.id xs d.0, distinct xs d.1)

-- each id of tasks with ids of 16 bits is below 2^16, by cases: the first task's id, any of the list
small_at : (q i : ℕ) (c b : Bool) → eqb q i ≡ b → i < 2 ^ 16 → (b || c) ≡ true → (c ≡ true → q < 2 ^ 16) → q < 2 ^ 16
small_at q i c true e l k rest = grind (arith, nat_tests)
small_at q i c false e l k rest = rest k

small : (xs : List Task) (q : ℕ) → HasSmallIds xs → list_any (eqb q) (ids xs) ≡ true → q < 2 ^ 16
small [] q s h = cc
small (x ∷ xs) q s h = small_at q x.id (list_any (eqb q) (ids xs)) (eqb q x.id) refl s.0 h (small xs q s.1)

-- there are as many ids as tasks
pub length-ids : (xs : List Task) → length (ids xs) ≡ length xs
length-ids [] = refl
length-ids (x ∷ xs) = ap suc (length-ids xs)

-- tasks with distinct ids of 16 bits are few
pub length-few : (xs : List Task) → HasDistinctIds xs → HasSmallIds xs → length xs ≤ 2 ^ 16
length-few xs d s = rw length-ids at (length-le_from_distinct_below (ids xs) (2 ^ 16) (distinct xs d) (λ q h. small xs q s h))

-- what is found by an id stays when a task of another id comes
pub find_task-inserted_other : (i : ℕ) (t : Task) (xs : List Task) → eqb t.id i ≡ false → find_task i (inserted t xs) ≡ find_task i xs
find_task-inserted_other i t [] h = rw h refl
find_task-inserted_other i t (x ∷ xs) h =
    elim (runs_before t x) as (λ b. find_task i (cond b (t ∷ x ∷ xs) (x ∷ inserted t xs)) ≡ find_task i (x ∷ xs)) [
      | true ↦ rw h refl
      | false ↦ ap (λ o. cond (eqb x.id i) (Some x) o) (find_task-inserted_other i t xs h)
    ]

-- ids stay distinct when a task comes whose id none has yet
pub HasDistinctIds-inserted : (t : Task) (xs : List Task) → find_task t.id xs ≡ None → HasDistinctIds xs → HasDistinctIds (inserted t xs)
HasDistinctIds-inserted t [] n d = (refl, tt)
HasDistinctIds-inserted t (x ∷ xs) n d =
    let s = find_task-none t.id x xs n in
    elim (runs_before t x) as (λ b. HasDistinctIds (cond b (t ∷ x ∷ xs) (x ∷ inserted t xs))) [
      | true ↦ (n, d)
      | false ↦ (find_task-inserted_other x.id t xs (eqb_comm x.id t.id s.0) ∙ d.0, HasDistinctIds-inserted t xs s.1 d.1)
    ]

-- ids still fit 16 bits when a task comes whose id does
pub HasSmallIds-inserted : (t : Task) (xs : List Task) → t.id < 2 ^ 16 → HasSmallIds xs → HasSmallIds (inserted t xs)
HasSmallIds-inserted t [] l s = (l, tt)
HasSmallIds-inserted t (x ∷ xs) l s =
    elim (runs_before t x) as (λ b. HasSmallIds (cond b (t ∷ x ∷ xs) (x ∷ inserted t xs))) [
      | true ↦ (l, s)
      | false ↦ (s.0, HasSmallIds-inserted t xs l s.1)
    ]

-- a task that comes makes a queue longer by one
pub length-inserted : (t : Task) (xs : List Task) → length (inserted t xs) ≡ length xs + 1
length-inserted t [] = refl
length-inserted t (x ∷ xs) =
    elim (runs_before t x) as (λ b. length (cond b (t ∷ x ∷ xs) (x ∷ inserted t xs)) ≡ length (x ∷ xs) + 1) [
      | true ↦ omega arith
      | false ↦ omega (arith, length-inserted t xs)
    ]

-- an id that no task has, none has once a task has left
pub find_task-without : (i j : ℕ) (xs : List Task) → find_task i xs ≡ None → find_task i (without j xs) ≡ None
find_task-without i j [] h = refl
find_task-without i j (x ∷ xs) h =
    let s = find_task-none i x xs h in
    elim (eqb x.id j) as (λ b. find_task i (cond b xs (x ∷ without j xs)) ≡ None) [
      | true ↦ s.1
      | false ↦ rw s.0 (find_task-without i j xs s.1)
    ]

-- ids stay distinct when a task leaves
pub HasDistinctIds-without : (j : ℕ) (xs : List Task) → HasDistinctIds xs → HasDistinctIds (without j xs)
HasDistinctIds-without j [] d = tt
HasDistinctIds-without j (x ∷ xs) d =
    elim (eqb x.id j) as (λ b. HasDistinctIds (cond b xs (x ∷ without j xs))) [
      | true ↦ d.1
      | false ↦ (find_task-without x.id j xs d.0, HasDistinctIds-without j xs d.1)
    ]

-- ids still fit 16 bits when a task leaves
pub HasSmallIds-without : (j : ℕ) (xs : List Task) → HasSmallIds xs → HasSmallIds (without j xs)
HasSmallIds-without j [] d = tt
HasSmallIds-without j (x ∷ xs) d =
    elim (eqb x.id j) as (λ b. HasSmallIds (cond b xs (x ∷ without j xs))) [
      | true ↦ d.1
      | false ↦ (d.0, HasSmallIds-without j xs d.1)
    ]

-- a list without one of its tasks is one shorter, whether the task is the first or a later one
length_by_test : (b : Bool) (x : Task) (xs ys : List Task) (o : Option Task)
    → IsSome (cond b (Some x) o) → (IsSome o → length ys + 1 ≡ length xs)
    → length (cond b xs (x ∷ ys)) + 1 ≡ length (x ∷ xs)
length_by_test true x xs ys o k rest = omega arith
length_by_test false x xs ys o k rest = omega (arith, rest k)

-- a task that is there leaves one task less
pub length-without : (j : ℕ) (xs : List Task) → IsSome (find_task j xs) → length (without j xs) + 1 ≡ length xs
length-without j [] h = cc
length-without j (x ∷ xs) h = length_by_test (eqb x.id j) x xs (without j xs) (find_task j xs) h (length-without j xs)

-- a task that is not there leaves them all
pub without-absent : (j : ℕ) (xs : List Task) → find_task j xs ≡ None → without j xs ≡ xs
without-absent j [] h = refl
without-absent j (x ∷ xs) h =
    let s = find_task-none j x xs h in
    rw s.0 (ap (λ ys. x ∷ ys) (without-absent j xs s.1))

-- once the task of an id is taken, none of that id is there, whether it was the first or a later one
gone_by_test : (i : ℕ) (b : Bool) (x : Task) (xs ys : List Task)
    → eqb x.id i ≡ b → find_task x.id xs ≡ None → find_task i ys ≡ None → find_task i (cond b xs (x ∷ ys)) ≡ None
gone_by_test i true x xs ys e d rest = rw (eqb-true x.id i e) at d
gone_by_test i false x xs ys e d rest = rw e rest

-- once taken, no task of that id is there
pub find_task-without_same : (i : ℕ) (xs : List Task) → HasDistinctIds xs → find_task i (without i xs) ≡ None
find_task-without_same i [] d = refl
find_task-without_same i (x ∷ xs) d = gone_by_test i (eqb x.id i) x xs (without i xs) refl d.0 (find_task-without_same i xs d.1)

pub ruleset queue_facts = (
  length-few,
  HasDistinctIds-inserted,
  HasSmallIds-inserted,
  length-inserted,
  HasDistinctIds-without,
  HasSmallIds-without,
  find_task-without_same,
)
