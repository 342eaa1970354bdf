-- Tasks that move between a queue and the current one: what holds of each goes on to hold, and their ids stay distinct.
use Rattle.std.proofs.Common.{◌≡◌, ℕ, Bool, true, false, cond, eqb, List, [], ◌∷◌, Option, Some, None, refl, ap, ◌∙◌, arith}
use Rattle.std.specs.Prelude.{IfSome}
use Rattle.std.specs.List.{AllByRecursion}
use Rattle.std.proofs.lemmas.Bool.Decides.{nat_tests}
use Rattle.bq_disc.specs.Tasks.{Task, find_task, without, inserted, runs_before}
use Rattle.bq_disc.specs.Queues.{HasDistinctIds}
use Rattle.bq_disc.proofs.QueueLemmas.{HasDistinctIds-inserted, HasDistinctIds-without, find_task-inserted_other, find_task-without, find_task-without_same}

-- what holds of each task holds of each of the tasks but one
pub each-without : (P : Task → Type 0) (i : ℕ) (xs : List Task) → AllByRecursion P xs → AllByRecursion P (without i xs)
each-without P i [] h = tt
each-without P i (x ∷ xs) h =
    elim (eqb x.id i) as (λ b. AllByRecursion P (cond b xs (x ∷ without i xs))) [
      | true ↦ h.1
      | false ↦ (h.0, each-without P i xs h.1)
    ]

-- what holds of each task and of one more holds of each of them together
pub each-inserted : (P : Task → Type 0) (t : Task) (xs : List Task) → P t → AllByRecursion P xs → AllByRecursion P (inserted t xs)
each-inserted P t [] p h = (p, tt)
each-inserted P t (x ∷ xs) p h =
    elim (runs_before t x) as (λ b. AllByRecursion P (cond b (t ∷ x ∷ xs) (x ∷ inserted t xs))) [
      | true ↦ (p, h)
      | false ↦ (h.0, each-inserted P t xs p h.1)
    ]

-- what holds of each task holds of the one that is found, whether it is the first or a later one
found_by_test : (P : Task → Type 0) (b : Bool) (x : Task) (o : Option Task) → P x → IfSome o P → IfSome (cond b (Some x) o) P
found_by_test P true x o p h = p
found_by_test P false x o p h = h

-- what holds of each task holds of the task that is found
pub each-find_task : (P : Task → Type 0) (i : ℕ) (xs : List Task) → AllByRecursion P xs → IfSome (find_task i xs) P
each-find_task P i [] h = tt
each-find_task P i (x ∷ xs) h = found_by_test P (eqb x.id i) x (find_task i xs) h.0 (each-find_task P i xs h.1)

-- a task of the queue runs, where none did
pub distinct-started : (m : Task) (q : List Task) → HasDistinctIds q → HasDistinctIds (m ∷ without m.id q)
distinct-started m q d = (find_task-without_same m.id q d, HasDistinctIds-without m.id q d)

-- a task of the queue has another id than a task whose id none of the queue has
another : (u m : Task) (q : List Task) (b : Bool) → eqb u.id m.id ≡ b → find_task u.id q ≡ None → find_task m.id q ≡ Some m
    → eqb u.id m.id ≡ false
another u m q true e n s =
    let same : u.id ≡ m.id = grind (arith, nat_tests) in
    let found = ap (λ i. find_task i q) same in
    cc
another u m q false e n s = e

-- a task of the queue and the current one change places
pub distinct-exchanged : (u m : Task) (q : List Task) → find_task m.id q ≡ Some m → HasDistinctIds (u ∷ q)
    → HasDistinctIds (m ∷ inserted u (without m.id q))
distinct-exchanged u m q s d =
    let rest = without m.id q in
    let apart = another u m q (eqb u.id m.id) refl d.0 s in (
      find_task-inserted_other m.id u rest apart ∙ find_task-without_same m.id q d.1,
      HasDistinctIds-inserted u rest (find_task-without u.id m.id q d.0) (HasDistinctIds-without m.id q d.1),
    )
