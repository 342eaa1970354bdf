-- The tasks of a queue in turn, each the next after the one before it.
use Rattle.std.proofs.Common.{◌≡◌, ℕ, Bool, true, false, cond, eqb, List, [], ◌∷◌, Option, Some, None, refl, sym, ap, subst, ◌∙◌, arith}
use Rattle.std.specs.Prelude.{filter, find}
use Rattle.std.specs.List.{AllByRecursion}
use Rattle.std.proofs.lemmas.Bool.Decides.{nat_tests}
use Rattle.bq_disc.specs.Tasks.{Task, runs_before, find_task}
use Rattle.bq_disc.specs.Queues.{follows, comes_after, HasDistinctIds}
use Rattle.bq_disc.specs.Rising.{IsRising, NoneRunsBefore}
use Rattle.bq_disc.proofs.QueueLemmas.{cond_none, find_task-none}

-- the tasks of the queue that come after the last one
abbrev pub rest_after : Option (ℕ × ℕ) → List Task → List Task
rest_after last xs = filter (follows last) xs

-- before the first, all tasks are still to come
pub rest_after-none : (xs : List Task) → rest_after None xs ≡ xs
rest_after-none [] = refl
rest_after-none (x ∷ xs) = ap (λ l. x ∷ l) (rest_after-none xs)

-- a task with another id that does not run before x comes after x
comes_later : (x y : Task) → runs_before y x ≡ false → eqb y.id x.id ≡ false → comes_after x.v x.id y ≡ true
comes_later x y p q = grind (arith, nat_tests)

-- no task comes after itself
not_after_itself : (x : Task) → comes_after x.v x.id x ≡ false
not_after_itself x = grind (arith, nat_tests)

-- what comes after a task that comes after (v, id), or that follows the last one, does so too:
after_along : (v id : ℕ) (x y : Task) → comes_after v id x ≡ true → comes_after x.v x.id y ≡ true → comes_after v id y ≡ true
after_along v id x y p q = grind (arith, nat_tests)

follows_along : (last : Option (ℕ × ℕ)) (x y : Task) → follows last x ≡ true → comes_after x.v x.id y ≡ true → follows last y ≡ true
follows_along None x y p q = refl
follows_along (Some (v, id)) x y p q = after_along v id x y p q

-- the rest of a rising queue comes after its first
rest_later : (x : Task) (xs : List Task) → NoneRunsBefore x xs → find_task x.id xs ≡ None
    → AllByRecursion (λ y. comes_after x.v x.id y ≡ true) xs
rest_later x [] r d = tt
rest_later x (y ∷ xs) r d = let s = find_task-none x.id y xs d in (comes_later x y r.0 s.0, rest_later x xs r.1 s.1)

-- if x follows the last one and all the others come after x, all the others are still to come
all_follow : (last : Option (ℕ × ℕ)) (x : Task) (xs : List Task)
    → follows last x ≡ true → AllByRecursion (λ y. comes_after x.v x.id y ≡ true) xs
    → rest_after last xs ≡ xs
all_follow last x [] h a = refl
all_follow last x (y ∷ xs) h a = let e = follows_along last x y h a.0 in rw e (ap (λ l. y ∷ l) (all_follow last x xs h a.1))

-- if all the others come after x, all of them are still to come after x
all_later : (x : Task) (xs : List Task) → AllByRecursion (λ y. comes_after x.v x.id y ≡ true) xs → rest_after (Some (x.v, x.id)) xs ≡ xs
all_later x [] a = refl
all_later x (y ∷ xs) a = let e = a.0 in rw e (ap (λ l. y ∷ l) (all_later x xs a.1))

-- if the first task of the queue follows the last one, it is next, and the rest comes after it
step_at_first : (last : Option (ℕ × ℕ)) (x : Task) (xs : List Task)
    → follows last x ≡ true → AllByRecursion (λ y. comes_after x.v x.id y ≡ true) xs
    → rest_after last (x ∷ xs) ≡ x ∷ rest_after (Some (x.v, x.id)) (x ∷ xs)
step_at_first last x xs h a =
    let e = not_after_itself x in
    rw (h, e) (ap (λ l. x ∷ l) (all_follow last x xs h a ∙ sym (all_later x xs a)))

-- a task that does not follow does not come after one that does
skipped : (last : Option (ℕ × ℕ)) (x t : Task) (b : Bool) → follows last x ≡ false → follows last t ≡ true
    → comes_after t.v t.id x ≡ b
    → b ≡ false
skipped last x t true h k e = let l = follows_along last t x k e in cc
skipped last x t false h k e = refl

-- the next task that is found follows the last one
found_follows : (last : Option (ℕ × ℕ)) (xs : List Task) (t : Task) → find (follows last) xs ≡ Some t → follows last t ≡ true
found_follows last [] t f = cc
found_follows last (x ∷ xs) t f = found (follows last x) refl f (found_follows last xs t)
  where
    found : (b : Bool) → follows last x ≡ b → cond b (Some x) (find (follows last) xs) ≡ Some t
        → (find (follows last) xs ≡ Some t → follows last t ≡ true)
        → follows last t ≡ true
    found true e f more = let same : x ≡ t = cc in subst (λ (y : Task). follows last y ≡ true) same e
    found false e f more = more f

-- the tasks still to come are the next one and those after it
pub rest_after-next : (last : Option (ℕ × ℕ)) (xs : List Task) (t : Task)
    → IsRising xs → HasDistinctIds xs → find (follows last) xs ≡ Some t
    → rest_after last xs ≡ t ∷ rest_after (Some (t.v, t.id)) xs
rest_after-next last [] t r d f = cc
rest_after-next last (x ∷ xs) t r d f = next (follows last x) refl f (rest_after-next last xs t r.1 d.1)
  where
    next : (b : Bool) → follows last x ≡ b → cond b (Some x) (find (follows last) xs) ≡ Some t
        → (find (follows last) xs ≡ Some t → rest_after last xs ≡ t ∷ rest_after (Some (t.v, t.id)) xs)
        → rest_after last (x ∷ xs) ≡ t ∷ rest_after (Some (t.v, t.id)) (x ∷ xs)
    next true e f more =
        let same : x ≡ t = cc in
        subst (λ (y : Task). rest_after last (x ∷ xs) ≡ y ∷ rest_after (Some (y.v, y.id)) (x ∷ xs)) same
        (step_at_first last x xs e (rest_later x xs r.0 d.0))
    next false e f more =
        let k = found_follows last xs t f in
        let n = skipped last x t (comes_after t.v t.id x) e k refl in
        rw (e, n) (more f)

-- after the last there is no next one
pub rest_after-end : (last : Option (ℕ × ℕ)) (xs : List Task) → find (follows last) xs ≡ None → rest_after last xs ≡ []
rest_after-end last [] f = refl
rest_after-end last (x ∷ xs) f =
    let s = cond_none (follows last x) x (find (follows last) xs) f in
    let e = s.0 in
    rw e (rest_after-end last xs s.1)
