-- The task that a queue names first is the first that would be pulled.
use Rattle.std.proofs.Common.{◌≡◌, ℕ, Bool, true, false, cond, List, [], ◌∷◌, ◌++◌, take, filter, reverse, Option, Some, None, refl, sym, ap, ◌∙◌, arith}
use Rattle.std.specs.Prelude.{IfSome, unwrap_or}
use Rattle.std.specs.List.{slice_get}
use Rattle.std.proofs.lemmas.List.{map-append, reverse-append}
use Rattle.std.proofs.lemmas.Bool.Decides.{nat_tests}
use Rattle.bq_disc.specs.Tasks.{Task, id_of, first_by, former, runs_before}
use Rattle.bq_disc.specs.Queues.{can_use}
use Rattle.bq_disc.specs.Rising.{IsRising, NoneRunsBefore}
use Rattle.bq_disc.specs.Movable.{movable_to, ids}
use Rattle.bq_disc.specs.Pulls.{pulled_before, movable}

-- the last of some ids
abbrev last_id : List Task → Option ℕ
last_id [] = None
last_id (x ∷ xs) = Some (unwrap_or (last_id xs) x.id)

-- of those that none runs before, one is found first
abbrev AfterAll : Task → Option Task → Type 0
AfterAll x o = IfSome o (λ y. runs_before y x ≡ false)

-- if neither of two tasks runs before x, the earlier to be pulled does not either, by cases: of two, of one and perhaps another
after_by_test : (b : Bool) (x y z : Task) → runs_before y x ≡ false → runs_before z x ≡ false → runs_before (cond b z y) x ≡ false
after_by_test true x y z p q = q
after_by_test false x y z p q = p

after_former : (x y : Task) (o : Option Task) → runs_before y x ≡ false → AfterAll x o → runs_before (former pulled_before y o) x ≡ false
after_former x y None p q = p
after_former x y (Some z) p q = after_by_test (pulled_before z y) x y z p q

-- if no task of a list runs before x, the first to be pulled of the list does not
after_all : (x : Task) (xs : List Task) → NoneRunsBefore x xs → AfterAll x (first_by pulled_before xs)
after_all x [] h = tt
after_all x (y ∷ xs) h = after_former x y (first_by pulled_before xs) h.0 (after_all x xs h.1)

-- two tasks of which neither runs before the other have the same id
same_id : (x y : Task) → runs_before x y ≡ false → runs_before y x ≡ false → x.id ≡ y.id
same_id x y p q = grind (arith, nat_tests)

-- of x and a task that does not run before it, the first to be pulled has the latter's id, by cases: one, at most one
last_by_test : (b : Bool) (x y : Task) → runs_before x y ≡ b → runs_before y x ≡ false → (cond b y x).id ≡ y.id
last_by_test true x y e h = refl
last_by_test false x y e h = same_id x y e h

last_former : (x : Task) (o : Option Task) → AfterAll x o → (former pulled_before x o).id ≡ unwrap_or (id_of o) x.id
last_former x None h = refl
last_former x (Some y) h = last_by_test (runs_before x y) x y refl h

-- the first to be pulled of a rising list is its last
first_is_last : (xs : List Task) → IsRising xs → id_of (first_by pulled_before xs) ≡ last_id xs
first_is_last [] h = refl
first_is_last (x ∷ xs) h =
    ap Some (last_former x (first_by pulled_before xs) (after_all x xs h.0) ∙ ap (λ o. unwrap_or o x.id) (first_is_last xs h.1))

-- if no task of a list runs before x, none of those that pass a test does
none_filter : (p : Task → Bool) (x : Task) (xs : List Task) → NoneRunsBefore x xs → NoneRunsBefore x (filter p xs)
none_filter p x [] h = tt
none_filter p x (y ∷ xs) h =
    elim (p y) as (λ b. NoneRunsBefore x (cond b (y ∷ filter p xs) (filter p xs))) [
      | true ↦ (h.0, none_filter p x xs h.1)
      | false ↦ none_filter p x xs h.1
    ]

-- of tasks by rising (v, id), those that pass a test are by rising (v, id) too
rising_filter : (p : Task → Bool) (xs : List Task) → IsRising xs → IsRising (filter p xs)
rising_filter p [] h = tt
rising_filter p (x ∷ xs) h =
    elim (p x) as (λ b. IsRising (cond b (x ∷ filter p xs) (filter p xs))) [
      | true ↦ (none_filter p x xs h.0, rising_filter p xs h.1)
      | false ↦ rising_filter p xs h.1
    ]

-- the first number of a list with one more at its end is the list's own first, or that one if the list is empty
front_append : (ns : List ℕ) (n : ℕ) → slice_get (ns ++ n ∷ []) 0 ≡ Some (unwrap_or (slice_get ns 0) n)
front_append [] n = refl
front_append (m ∷ ns) n = refl

-- the first eight of some ids begin with the same id
front_take : (ns : List ℕ) → slice_get (take 8 ns) 0 ≡ slice_get ns 0
front_take [] = refl
front_take (n ∷ ns) = refl

-- the first id of the reversed tasks is the last id of the tasks
front_reverse : (xs : List Task) → slice_get (ids (reverse xs)) 0 ≡ last_id xs
front_reverse [] = refl
front_reverse (x ∷ xs) =
    ap (λ ns. slice_get ns 0) (ap ids (reverse-append (x ∷ []) xs) ∙ map-append (λ (t : Task). t.id) (reverse xs) (x ∷ []))
    ∙ front_append (ids (reverse xs)) x.id ∙ ap (λ o. Some (unwrap_or o x.id)) (front_reverse xs)

-- the first that a queue names is the first to be pulled
pub greatest_named : (processor : ℕ) (xs : List Task) (named : List ℕ)
    → IsRising xs → named ≡ take 8 (ids (movable_to processor xs))
    → slice_get named 0 ≡ id_of (first_by pulled_before (movable processor xs))
greatest_named processor xs named h e =
    ap (λ ns. slice_get ns 0) e ∙ front_take (ids (movable_to processor xs)) ∙ front_reverse (movable processor xs)
    ∙ sym (first_is_last (movable processor xs) (rising_filter (can_use processor) xs h))
