-- Lists with distinct ids that hold the same tasks have the same sums, and the same tasks that pass a test.
use Rattle.std.proofs.Common.{◌≡◌, ℕ, zero, suc, ◌+◌, ◌*◌, ◌<◌, Bool, true, false, cond, eqb, List, [], ◌∷◌, length, Option, Some, None, filter, refl, ap, sym, ◌∙◌, arith, eqb-true, eq-eqb}
use Rattle.std.specs.Prelude.{Contains, slice_index_or}
use Rattle.bq_disc.specs.Tasks.{Task, find_task, without}
use Rattle.bq_disc.specs.Queues.{HasDistinctIds}
use Rattle.bq_disc.specs.Discipline.{SameSet}
use Rattle.bq_disc.specs.Totals.{total_weight, weighted_sum}
use Rattle.bq_disc.specs.Orders.{Contains-later}
use Rattle.bq_disc.proofs.QueueLemmas.{find_task-none, HasDistinctIds-without, find_task-without_same}
use Rattle.bq_disc.proofs.SetLemmas.{SameById, SameById-SameSet}

-- the sum of a number that each of some tasks has
abbrev pub sum_of : (Task → ℕ) → List Task → ℕ
sum_of f [] = 0
sum_of f (x ∷ xs) = f x + sum_of f xs

-- the sum is the taken task's number and the sum of the rest, whether it is the first task or a later one
taken_by_test : (f : Task → ℕ) (b : Bool) (x t : Task) (xs ys : List Task) (o : Option Task)
    → cond b (Some x) o ≡ Some t → (o ≡ Some t → sum_of f xs ≡ f t + sum_of f ys)
    → sum_of f (x ∷ xs) ≡ f t + sum_of f (cond b xs (x ∷ ys))
taken_by_test f true x t xs ys o h rest = let same : x ≡ t = cc in ap (λ s. f s + sum_of f xs) same
taken_by_test f false x t xs ys o h rest = let r = rest h in omega (arith, r)

-- what a task adds to a sum, and what is left without it
pub sum_of-without : (f : Task → ℕ) (i : ℕ) (xs : List Task) (t : Task)
    → find_task i xs ≡ Some t → sum_of f xs ≡ f t + sum_of f (without i xs)
sum_of-without f i [] t h = cc
sum_of-without f i (x ∷ xs) t h = taken_by_test f (eqb x.id i) x t xs (without i xs) (find_task i xs) h (sum_of-without f i xs t)

-- taking out one id leaves what is found by another id, by cases: with a first task, for any list
other_by_test : (i j : ℕ) (b c : Bool) (x : Task) (xs ys : List Task)
    → eqb x.id i ≡ b → eqb x.id j ≡ c → (i ≡ j → ⊥) → find_task j ys ≡ find_task j xs
    → find_task j (cond b xs (x ∷ ys)) ≡ cond c (Some x) (find_task j xs)
other_by_test i j true true x xs ys e g ne rest = absurd (ne (sym (eqb-true x.id i e) ∙ eqb-true x.id j g))
other_by_test i j true false x xs ys e g ne rest = refl
other_by_test i j false c x xs ys e g ne rest = rw g (ap (λ o. cond c (Some x) o) rest)

find_task-without_other : (i j : ℕ) (xs : List Task) → (i ≡ j → ⊥) → find_task j (without i xs) ≡ find_task j xs
find_task-without_other i j [] ne = refl
find_task-without_other i j (x ∷ xs) ne =
    other_by_test i j (eqb x.id i) (eqb x.id j) x xs (without i xs) refl refl ne (find_task-without_other i j xs ne)

-- lists that are the same by ids stay so without the first task of one, by cases: at one id, at all ids
rest_same_at : (x : Task) (xs ys : List Task) → HasDistinctIds (x ∷ xs) → HasDistinctIds ys → SameById (x ∷ xs) ys
    → (j : ℕ) (b : Bool) → eqb x.id j ≡ b
    → find_task j xs ≡ find_task j (without x.id ys)
rest_same_at x xs ys d dy h j true e =
    let same = eqb-true x.id j e in
    ap (λ i. find_task i xs) (sym same) ∙ d.0 ∙ sym (find_task-without_same x.id ys dy) ∙ ap (λ i. find_task i (without x.id ys)) same
rest_same_at x xs ys d dy h j false e =
    let here : find_task j (x ∷ xs) ≡ find_task j xs = rw e refl in
    let ne : x.id ≡ j → ⊥ = λ same. let t = eq-eqb x.id j same in cc in
    sym here ∙ h j ∙ sym (find_task-without_other x.id j ys ne)

rest_same : (x : Task) (xs ys : List Task) → HasDistinctIds (x ∷ xs) → HasDistinctIds ys → SameById (x ∷ xs) ys
    → SameById xs (without x.id ys)
rest_same x xs ys d dy h = λ j. rest_same_at x xs ys d dy h j (eqb x.id j) refl

-- the first task of one list is found by its id in the other
first_there : (x : Task) (xs ys : List Task) → SameById (x ∷ xs) ys → find_task x.id ys ≡ Some x
first_there x xs ys h =
    let here : find_task x.id (x ∷ xs) ≡ Some x = rw (eq-eqb x.id x.id refl) refl in
    sym (h x.id) ∙ here

-- lists with distinct ids that are the same by their ids have the same sum
sum_of-same : (f : Task → ℕ) (xs ys : List Task) → HasDistinctIds xs → HasDistinctIds ys → SameById xs ys → sum_of f xs ≡ sum_of f ys
sum_of-same f [] [] dx dy h = refl
sum_of-same f [] (y ∷ ys) dx dy h = let there = first_there y ys [] (λ i. sym (h i)) in cc
sum_of-same f (x ∷ xs) ys dx dy h =
    let rest = sum_of-same f xs (without x.id ys) dx.1 (HasDistinctIds-without x.id ys dy) (rest_same x xs ys dx dy h) in
    let whole = sum_of-without f x.id ys x (first_there x xs ys h) in
    omega (arith, rest, whole)

-- the total weight and the weighted sum are sums of a number of each task
total_weight-sum_of : (xs : List Task) → total_weight xs ≡ sum_of (λ (t : Task). t.weight) xs
total_weight-sum_of [] = refl
total_weight-sum_of (x ∷ xs) = ap (λ n. x.weight + n) (total_weight-sum_of xs)

weighted_sum-sum_of : (xs : List Task) → weighted_sum xs ≡ sum_of (λ (t : Task). t.weight * t.v) xs
weighted_sum-sum_of [] = refl
weighted_sum-sum_of (x ∷ xs) = ap (λ n. x.weight * x.v + n) (weighted_sum-sum_of xs)

-- the same tasks have the same weight together
pub total_weight-same : (xs ys : List Task) → HasDistinctIds xs → HasDistinctIds ys → SameSet xs ys → total_weight xs ≡ total_weight ys
total_weight-same xs ys dx dy s =
    total_weight-sum_of xs ∙ sum_of-same (λ (t : Task). t.weight) xs ys dx dy (SameById-SameSet xs ys dx dy s)
    ∙ sym (total_weight-sum_of ys)

-- the same tasks have the same weighted sum
pub weighted_sum-same : (xs ys : List Task) → HasDistinctIds xs → HasDistinctIds ys → SameSet xs ys → weighted_sum xs ≡ weighted_sum ys
weighted_sum-same xs ys dx dy s =
    weighted_sum-sum_of xs ∙ sum_of-same (λ (t : Task). t.weight * t.v) xs ys dx dy (SameById-SameSet xs ys dx dy s)
    ∙ sym (weighted_sum-sum_of ys)

-- Tasks that pass a test

-- an id that no task has, none has among those that pass a test, by cases: with a first task, for any list
kept_none : (p : Task → Bool) (i : ℕ) (b : Bool) (x : Task) (xs : List Task)
    → find_task i xs ≡ None → eqb x.id i ≡ false → find_task i (cond b (x ∷ xs) xs) ≡ None
kept_none p i true x xs h e = rw e h
kept_none p i false x xs h e = h

filter_none : (p : Task → Bool) (i : ℕ) (xs : List Task) → find_task i xs ≡ None → find_task i (filter p xs) ≡ None
filter_none p i [] h = refl
filter_none p i (x ∷ xs) h =
    let s = find_task-none i x xs h in
    kept_none p i (p x) x (filter p xs) (filter_none p i xs s.1) s.0

-- ids stay distinct whether a task of a new id is kept or not
kept_distinct : (b : Bool) (x : Task) (xs : List Task) → find_task x.id xs ≡ None → HasDistinctIds xs → HasDistinctIds (cond b (x ∷ xs) xs)
kept_distinct true x xs n d = (n, d)
kept_distinct false x xs n d = d

-- of tasks with distinct ids, those that pass a test have distinct ids
pub HasDistinctIds-filter : (p : Task → Bool) (xs : List Task) → HasDistinctIds xs → HasDistinctIds (filter p xs)
HasDistinctIds-filter p [] d = tt
HasDistinctIds-filter p (x ∷ xs) d = kept_distinct (p x) x (filter p xs) (filter_none p x.id xs d.0) (HasDistinctIds-filter p xs d.1)

-- a task kept of a list was there and passes the test, if that is so for the list behind the first task
at_filter : (p : Task → Bool) (b : Bool) (x t : Task) (ys xs : List Task) (k : ℕ)
    → p x ≡ b → k < length (cond b (x ∷ ys) ys) → slice_index_or (cond b (x ∷ ys) ys) k t ≡ t
    → (Contains ys t → Contains xs t × (p t ≡ true))
    → Contains (x ∷ xs) t × (p t ≡ true)
at_filter p false x t ys xs k e l i rest = let r = rest (k, l, i) in (Contains-later x t xs r.0, r.1)
at_filter p true x t ys xs zero e l i rest = ((0, omega arith, i), ap p (sym i) ∙ e)
at_filter p true x t ys xs (suc k) e l i rest = let r = rest (k, omega (arith, l), i) in (Contains-later x t xs r.0, r.1)

-- what is kept was there, and passes the test
pub Contains-filter : (p : Task → Bool) (xs : List Task) (t : Task) → Contains (filter p xs) t → Contains xs t × (p t ≡ true)
Contains-filter p [] t h = absurd (omega (arith, h.1))
Contains-filter p (x ∷ xs) t h = at_filter p (p x) x t (filter p xs) xs h.0 refl h.1 h.2 (Contains-filter p xs t)

-- what is kept of the rest is kept of the whole, whether the first task passes or not
kept_later : (b : Bool) (x t : Task) (ys : List Task) → Contains ys t → Contains (cond b (x ∷ ys) ys) t
kept_later true x t ys h = Contains-later x t ys h
kept_later false x t ys h = h

-- what is there and passes the test is kept
pub filter-Contains : (p : Task → Bool) (xs : List Task) (t : Task) (k : ℕ)
    → k < length xs → slice_index_or xs k t ≡ t → p t ≡ true → Contains (filter p xs) t
filter-Contains p [] t k l e h = absurd (omega (arith, l))
filter-Contains p (x ∷ xs) t zero l e h =
    let passes : p x ≡ true = ap p e ∙ h in
    rw passes (0, omega arith, e)
filter-Contains p (x ∷ xs) t (suc k) l e h = kept_later (p x) x t (filter p xs) (filter-Contains p xs t k (omega (arith, l)) e h)

-- the same tasks pass the same test
pub SameSet-filter : (p : Task → Bool) (xs ys : List Task) → SameSet xs ys → SameSet (filter p xs) (filter p ys)
SameSet-filter p xs ys s = (
  λ t h. let c = Contains-filter p xs t h in let there = s.0 t c.0 in filter-Contains p ys t there.0 there.1 there.2 c.1,
  λ t h. let c = Contains-filter p ys t h in let there = s.1 t c.0 in filter-Contains p xs t there.0 there.1 there.2 c.1,
)
