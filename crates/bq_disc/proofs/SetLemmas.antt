-- Lists with distinct ids that hold the same tasks agree on each id, and have the same first task by any order.
use Rattle.std.proofs.Common.{◌≡◌, ℕ, zero, suc, ◌<◌, Bool, true, false, cond, eqb, List, [], ◌∷◌, length, Option, Some, None, refl, ap, sym, ◌∙◌, ◌⊎◌, inl, inr, arith, eqb-true, eq-eqb}
use Rattle.std.specs.Prelude.{Contains, slice_index_or, IfSome}
use Rattle.std.proofs.lemmas.Bool.Decides.{nat_tests}
use Rattle.bq_disc.specs.Tasks.{Task, find_task, first_by, former, runs_before}
use Rattle.bq_disc.specs.Dues.{due_before}
use Rattle.bq_disc.specs.Queues.{HasDistinctIds}
use Rattle.bq_disc.specs.Discipline.{SameSet}
use Rattle.bq_disc.specs.Orders.{Contains-first, Contains-later}

-- each id stands for the same task, or for none, in both
abbrev pub SameById : List Task → List Task → Type 0
SameById xs ys = (id : ℕ) → find_task id xs ≡ find_task id ys

-- a task that is found by an id has that id, by whether the first task has it
found_by_test : (b : Bool) (i : ℕ) (x t : Task) (o : Option Task)
    → eqb x.id i ≡ b → cond b (Some x) o ≡ Some t → (o ≡ Some t → t.id ≡ i) → t.id ≡ i
found_by_test true i x t o e h rest = let same : x ≡ t = cc in ap (λ (s : Task). s.id) (sym same) ∙ eqb-true x.id i e
found_by_test false i x t o e h rest = rest h

-- what is found has the id that was sought
pub find_task-id : (i : ℕ) (xs : List Task) (t : Task) → find_task i xs ≡ Some t → t.id ≡ i
find_task-id i [] t h = cc
find_task-id i (x ∷ xs) t h = found_by_test (eqb x.id i) i x t (find_task i xs) refl h (find_task-id i xs t)

-- a task found in the rest is found in the whole, because the first task has another id
later_by_test : (b : Bool) (x t : Task) (xs : List Task) → eqb x.id t.id ≡ b → find_task x.id xs ≡ None
    → find_task t.id xs ≡ Some t
    → cond b (Some x) (find_task t.id xs) ≡ Some t
later_by_test true x t xs e none some = let same = eqb-true x.id t.id e in let here = rw same at none in cc
later_by_test false x t xs e none some = some

-- a task that a list has is the one of its id
pub find_task-Contains : (xs : List Task) (t : Task) (k : ℕ) → HasDistinctIds xs → k < length xs → slice_index_or xs k t ≡ t
    → find_task t.id xs ≡ Some t
find_task-Contains [] t k d l e = absurd (omega (arith, l))
find_task-Contains (x ∷ xs) t zero d l e =
    let here : x ≡ t = e in
    rw (eq-eqb x.id t.id (ap (λ (s : Task). s.id) here)) (ap (λ (s : Task). Some s) here)
find_task-Contains (x ∷ xs) t (suc k) d l e =
    let rest = find_task-Contains xs t k d.1 (omega (arith, l)) e in
    later_by_test (eqb x.id t.id) x t xs refl d.0 rest

-- there is no task, or there is one
some_or_none : (o : Option Task) → (o ≡ None) ⊎ ((t : Task) × (o ≡ Some t))
some_or_none None = inl refl
some_or_none (Some t) = inr (t, refl)

-- a task that is found is in the list, whether it is the first or a later one
here_or_later : (b : Bool) (x t : Task) (xs : List Task) (i : ℕ)
    → cond b (Some x) (find_task i xs) ≡ Some t → (find_task i xs ≡ Some t → Contains xs t) → Contains (x ∷ xs) t
here_or_later true x t xs i h rest = (0, omega arith, cc)
here_or_later false x t xs i h rest = let l = rest h in (suc l.0, omega (arith, l.1), l.2)

-- the task that is found by an id is one of the list
pub Contains-find_task : (i : ℕ) (xs : List Task) (t : Task) → find_task i xs ≡ Some t → Contains xs t
Contains-find_task i [] t h = cc
Contains-find_task i (x ∷ xs) t h = here_or_later (eqb x.id i) x t xs i h (Contains-find_task i xs t)

-- what one list has or lacks by an id, another with the same tasks has or lacks
carried_over : (i : ℕ) (xs ys : List Task) (o : Option Task) → find_task i xs ≡ o → HasDistinctIds ys
    → ((t : Task) → Contains xs t → Contains ys t) → ((t : Task) → Contains ys t → Contains xs t) → HasDistinctIds xs
    → find_task i ys ≡ o
carried_over i xs ys (Some t) e d h k dx =
    let c = h t (Contains-find_task i xs t e) in
    rw (← (find_task-id i xs t e)) (find_task-Contains ys t c.0 d c.1 c.2)
carried_over i xs ys None e d h k dx = elim (some_or_none (find_task i ys)) [
  | inl none ↦ none
  | inr some ↦
      let c = k some.0 (Contains-find_task i ys some.0 some.1) in
      let back = find_task-Contains xs some.0 c.0 dx c.1 c.2 in
      let there = rw (find_task-id i ys some.0 some.1) at back in
      cc
]

-- with distinct ids, the same tasks are the same by their ids
pub SameById-SameSet : (xs ys : List Task) → HasDistinctIds xs → HasDistinctIds ys → SameSet xs ys → SameById xs ys
SameById-SameSet xs ys dx dy h = λ i. sym (carried_over i xs ys (find_task i xs) refl dy h.0 h.1 dx)

-- Order

-- each task goes before another or after it, if their ids differ
pub record IsOrder (before : Task → Task → Bool) : Type 0 where
  pub one_way : (a b : Task) → before a b ≡ true → before b a ≡ false
  pub passes_on : (a b c : Task) → before a b ≡ false → before b c ≡ false → before a c ≡ false
  pub apart : (a b : Task) → before a b ≡ false → before b a ≡ false → a.id ≡ b.id

-- to compare tasks by v, and where these are equal by id, is an order
pub runs_before-IsOrder : IsOrder runs_before
runs_before-IsOrder = record {
  one_way = λ a b h. grind (arith, nat_tests);
  passes_on = λ a b c h k. grind (arith, nat_tests);
  apart = λ a b h k. grind (arith, nat_tests);
}

-- to compare tasks by deadline, and where these are equal by id, is an order
pub due_before-IsOrder : IsOrder due_before
due_before-IsOrder = record {
  one_way = λ a b h. grind (arith, nat_tests);
  passes_on = λ a b c h k. grind (arith, nat_tests);
  apart = λ a b h k. grind (arith, nat_tests);
}

-- by an order, no task comes before itself
not_itself : (before : Task → Task → Bool) → IsOrder before → (a : Task) (b : Bool) → before a a ≡ b → before a a ≡ false
not_itself before o a true e = o.one_way a a e
not_itself before o a false e = e

-- no task of the list comes before m
abbrev NoneBefore : (Task → Task → Bool) → Task → List Task → Type 0
NoneBefore before m [] = Unit {0}
NoneBefore before m (x ∷ xs) = (before x m ≡ false) × NoneBefore before m xs

-- if m does not come before n and no task of a list before m, none comes before n
none_before_later : (before : Task → Task → Bool) → IsOrder before → (m n : Task) (xs : List Task) → before m n ≡ false
    → NoneBefore before m xs
    → NoneBefore before n xs
none_before_later before o m n [] e h = tt
none_before_later before o m n (x ∷ xs) e h = (o.passes_on x m n h.0 e, none_before_later before o m n xs e h.1)

-- m is the first of the tasks by an order; None of no tasks
abbrev IsFirst : (Task → Task → Bool) → List Task → Option Task → Type 0
IsFirst before xs None = xs ≡ []
IsFirst before xs (Some m) = Contains xs m × NoneBefore before m xs

-- the former of a task and the first of a list is the first of all, by cases: the list has a first, it may have none
first_of_two : (before : Task → Task → Bool) → IsOrder before → (x m : Task) (xs : List Task) (b : Bool) → before m x ≡ b
    → Contains xs m → NoneBefore before m xs
    → IsFirst before (x ∷ xs) (Some (cond b m x))
first_of_two before o x m xs true e c h = (Contains-later x m xs c, (o.one_way m x e, h))
first_of_two before o x m xs false e c h =
    (Contains-first x xs, (not_itself before o x (before x x) refl, none_before_later before o m x xs e h))

first_with : (before : Task → Task → Bool) → IsOrder before → (x : Task) (xs : List Task) (m : Option Task)
    → IsFirst before xs m
    → IsFirst before (x ∷ xs) (Some (former before x m))
first_with before o x xs None h = (Contains-first x xs, (not_itself before o x (before x x) refl, rw h tt))
first_with before o x xs (Some m) h = first_of_two before o x m xs (before m x) refl h.0 h.1

-- the first of a list by an order is in it, and none comes before it
is_first : (before : Task → Task → Bool) → IsOrder before → (xs : List Task) → IsFirst before xs (first_by before xs)
is_first before o [] = refl
is_first before o (x ∷ xs) = first_with before o x xs (first_by before xs) (is_first before o xs)

-- if no task of a list comes before m, a task that the list contains does not
not_before_at : (before : Task → Task → Bool) (m t : Task) (xs : List Task) (k : ℕ)
    → NoneBefore before m xs → k < length xs → slice_index_or xs k t ≡ t → before t m ≡ false
not_before_at before m t [] k h l e = absurd (omega (arith, l))
not_before_at before m t (x ∷ xs) zero h l e = ap (λ s. before s m) (sym e) ∙ h.0
not_before_at before m t (x ∷ xs) (suc k) h l e = not_before_at before m t xs k h.1 (omega (arith, l)) e

-- an empty list contains no task
nothing_in : (xs : List Task) (t : Task) → xs ≡ [] → Contains xs t → ⊥
nothing_in [] t e c = omega (arith, c.1)
nothing_in (x ∷ xs) t e c = cc

-- the first tasks of lists with the same tasks are the same, by cases: whether each list has one
same_firsts : (before : Task → Task → Bool) → IsOrder before → (xs ys : List Task) → HasDistinctIds xs → HasDistinctIds ys
    → SameSet xs ys → (m n : Option Task) → IsFirst before xs m → IsFirst before ys n
    → m ≡ n
same_firsts before o xs ys dx dy s None None h k = refl
same_firsts before o xs ys dx dy s None (Some n) h k = absurd (nothing_in xs n h (s.1 n k.0))
same_firsts before o xs ys dx dy s (Some m) None h k = absurd (nothing_in ys m k (s.0 m h.0))
same_firsts before o xs ys dx dy s (Some m) (Some n) h k =
    let n_in_xs = s.1 n k.0 in
    let m_in_ys = s.0 m h.0 in
    let one = not_before_at before m n xs n_in_xs.0 h.1 n_in_xs.1 n_in_xs.2 in
    let other = not_before_at before n m ys m_in_ys.0 k.1 m_in_ys.1 m_in_ys.2 in
    let same_id = o.apart m n other one in
    let m_there = find_task-Contains xs m h.0.0 dx h.0.1 h.0.2 in
    let n_there = find_task-Contains xs n n_in_xs.0 dx n_in_xs.1 n_in_xs.2 in
    sym m_there ∙ ap (λ i. find_task i xs) same_id ∙ n_there

-- the same tasks have the same first
pub first_by-same : (before : Task → Task → Bool) → IsOrder before → (xs ys : List Task) → HasDistinctIds xs
    → HasDistinctIds ys → SameSet xs ys
    → first_by before xs ≡ first_by before ys
first_by-same before o xs ys dx dy s =
    same_firsts before o xs ys dx dy s (first_by before xs) (first_by before ys) (is_first before o xs) (is_first before o ys)

-- no task that a list contains comes before its first
no_other_before : (before : Task → Task → Bool) (xs : List Task) (o : Option Task)
    → IsFirst before xs o → IfSome o (λ m. (t : Task) → Contains xs t → before t m ≡ false)
no_other_before before xs None h = tt
no_other_before before xs (Some m) h = λ t c. not_before_at before m t xs c.0 h.1 c.1 c.2

-- none comes before the first
pub first_by-least : (before : Task → Task → Bool) → IsOrder before
    → (xs : List Task) → IfSome (first_by before xs) (λ m. (t : Task) → Contains xs t → before t m ≡ false)
first_by-least before o xs = no_other_before before xs (first_by before xs) (is_first before o xs)

-- what holds of a value holds of it in other words
pub IfSome-weaker : (o : Option Task) (P Q : Task → Type 0) → ((t : Task) → P t → Q t) → IfSome o P → IfSome o Q
IfSome-weaker None P Q f h = tt
IfSome-weaker (Some t) P Q f h = f t h
