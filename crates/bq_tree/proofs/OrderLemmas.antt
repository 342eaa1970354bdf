-- Lists of tasks by rising (v, id), cut at a task: their two parts, and the tasks put in or taken out there.
use Rattle.std.proofs.Common.{◌≡◌, ℕ, true, false, cond, List, [], ◌∷◌, ◌++◌, Option, Some, None, refl, ap, sym, ◌∙◌, append_assoc, arith}
use Rattle.std.specs.List.{AllByRecursion}
use Rattle.std.proofs.lemmas.Bool.Decides.{nat_tests}
use Rattle.bq_disc.specs.Tasks.{Task, inserted, runs_before}
use Rattle.bq_disc.specs.Queues.{comes_after}
use Rattle.bq_disc.specs.Rising.{IsRising, NoneRunsBefore}
use Rattle.bq_disc.proofs.RisingLemmas.{not_before}
use Rattle.bq_tree.specs.Taking.{is_task_at, IsAbsent, TakesOut, FindsTask}

-- a task runs before none of these
abbrev pub RunsBeforeNone : Task → List Task → Type 0
RunsBeforeNone x xs = AllByRecursion (λ (y : Task). runs_before x y ≡ false) xs

-- if no task of a list runs before x, none of its parts does, and the other way round, by cases: front, back, both
none_front : (x : Task) (xs ys : List Task) → NoneRunsBefore x (xs ++ ys) → NoneRunsBefore x xs
none_front x [] ys h = tt
none_front x (y ∷ xs) ys h = (h.0, none_front x xs ys h.1)

none_back : (x : Task) (xs ys : List Task) → NoneRunsBefore x (xs ++ ys) → NoneRunsBefore x ys
none_back x [] ys h = h
none_back x (y ∷ xs) ys h = none_back x xs ys h.1

none_join : (x : Task) (xs ys : List Task) → NoneRunsBefore x xs → NoneRunsBefore x ys → NoneRunsBefore x (xs ++ ys)
none_join x [] ys h k = k
none_join x (y ∷ xs) ys h k = (h.0, none_join x xs ys h.1 k)

-- the front of a list that rises does so too
pub IsRising-left : (xs ys : List Task) → IsRising (xs ++ ys) → IsRising xs
IsRising-left [] ys h = tt
IsRising-left (x ∷ xs) ys h = (none_front x xs ys h.0, IsRising-left xs ys h.1)

-- what is behind the front of a list that rises does so too
pub IsRising-right : (xs ys : List Task) → IsRising (xs ++ ys) → IsRising ys
IsRising-right [] ys h = h
IsRising-right (x ∷ xs) ys h = IsRising-right xs ys h.1

-- in a list that rises, no task behind one runs before it
pub IsRising-after : (xs : List Task) (x : Task) (ys : List Task) → IsRising (xs ++ x ∷ ys) → NoneRunsBefore x ys
IsRising-after xs x ys h = (IsRising-right xs (x ∷ ys) h).0

-- in a list that rises, a task runs before none in front of it
pub IsRising-before : (xs : List Task) (x : Task) (ys : List Task) → IsRising (xs ++ x ∷ ys) → RunsBeforeNone x xs
IsRising-before [] x ys h = tt
IsRising-before (y ∷ xs) x ys h = ((none_back y xs (x ∷ ys) h.0).0, IsRising-before xs x ys h.1)

-- a list without one of its tasks still rises
pub IsRising-drop : (xs : List Task) (x : Task) (ys : List Task) → IsRising (xs ++ x ∷ ys) → IsRising (xs ++ ys)
IsRising-drop [] x ys h = h.1
IsRising-drop (y ∷ xs) x ys h =
    (none_join y xs ys (none_front y xs (x ∷ ys) h.0) (none_back y xs (x ∷ ys) h.0).1, IsRising-drop xs x ys h.1)

-- a task that runs before x has its place before it
pub inserted-left : (t : Task) (xs : List Task) (x : Task) (ys : List Task)
    → runs_before t x ≡ true → inserted t (xs ++ x ∷ ys) ≡ inserted t xs ++ x ∷ ys
inserted-left t [] x ys e = rw e refl
inserted-left t (y ∷ xs) x ys e =
    elim (runs_before t y)
    as (λ b. cond b (t ∷ y ∷ (xs ++ x ∷ ys)) (y ∷ inserted t (xs ++ x ∷ ys)) ≡ cond b (t ∷ y ∷ xs) (y ∷ inserted t xs) ++ x ∷ ys) [
      | true ↦ refl
      | false ↦ ap (λ l. y ∷ l) (inserted-left t xs x ys e)
    ]

-- a task that does not run before x has its place after it
pub inserted-right : (t : Task) (xs : List Task) (x : Task) (ys : List Task)
    → runs_before t x ≡ false → RunsBeforeNone x xs → inserted t (xs ++ x ∷ ys) ≡ xs ++ x ∷ inserted t ys
inserted-right t [] x ys e h = rw e refl
inserted-right t (y ∷ xs) x ys e h =
    let n = not_before t x y e h.0 in
    rw n (ap (λ l. y ∷ l) (inserted-right t xs x ys e h.1))

-- if x comes after (v, id), so does a task that does not run before x
comes_later : (v id : ℕ) (x y : Task) → comes_after v id x ≡ true → runs_before y x ≡ false → comes_after v id y ≡ true
comes_later v id x y p q = grind (arith, nat_tests)

-- a task that comes after (v, id) is not the one at (v, id)
is_at-after : (v id : ℕ) (x : Task) → comes_after v id x ≡ true → is_task_at v id x ≡ false
is_at-after v id x p = grind (arith, nat_tests)

-- (v, id) lies before x, and so it is not among the later ones
absent_later : (v id : ℕ) (x : Task) (xs : List Task) → comes_after v id x ≡ true → NoneRunsBefore x xs → IsAbsent v id xs
absent_later v id x [] a h = tt
absent_later v id x (y ∷ xs) a h = (is_at-after v id y (comes_later v id x y a h.0), absent_later v id x xs a h.1)

-- if x neither comes after (v, id) nor is at it, a task that x does not run before is not at it
not_at-before : (v id : ℕ) (x y : Task) → comes_after v id x ≡ false → is_task_at v id x ≡ false → runs_before x y ≡ false → is_task_at v id y ≡ false
not_at-before v id x y p q r = grind (arith, nat_tests)

-- (v, id) lies after x, and so it is not among the earlier ones
absent_earlier : (v id : ℕ) (x : Task) (xs : List Task) → comes_after v id x ≡ false → is_task_at v id x ≡ false
    → RunsBeforeNone x xs
    → IsAbsent v id xs
absent_earlier v id x [] a n h = tt
absent_earlier v id x (y ∷ xs) a n h = (not_at-before v id x y a n h.0, absent_earlier v id x xs a n h.1)

-- if no task of two lists is at (v, id), none of both joined is
absent_join : (v id : ℕ) (xs ys : List Task) → IsAbsent v id xs → IsAbsent v id ys → IsAbsent v id (xs ++ ys)
absent_join v id [] ys h k = k
absent_join v id (x ∷ xs) ys h k = (h.0, absent_join v id xs ys h.1 k)

-- what is taken from the left side is taken from the whole
pub Takes-left : (v id : ℕ) (xs : List Task) (x : Task) (ys : List Task) (o : Option Task) (rest : List Task)
    → IsRising (xs ++ x ∷ ys) → comes_after v id x ≡ true → TakesOut v id xs o rest
    → TakesOut v id (xs ++ x ∷ ys) o (rest ++ x ∷ ys)
Takes-left v id xs x ys None rest h a t =
    let later = absent_later v id x ys a (IsRising-after xs x ys h) in
    (absent_join v id xs (x ∷ ys) t.0 (is_at-after v id x a, later), ap (λ l. l ++ x ∷ ys) t.1)
Takes-left v id xs x ys (Some y) rest h a t = (
  t.0,
  t.1 ++ x ∷ ys,
  t.2,
  t.3,
  ap (λ l. l ++ x ∷ ys) t.4 ∙ append_assoc t.0 (y ∷ t.1) (x ∷ ys),
  ap (λ l. l ++ x ∷ ys) t.5 ∙ append_assoc t.0 t.1 (x ∷ ys),
)

-- what is taken from the right side is taken from the whole
pub Takes-right : (v id : ℕ) (xs : List Task) (x : Task) (ys : List Task) (o : Option Task) (rest : List Task)
    → IsRising (xs ++ x ∷ ys) → comes_after v id x ≡ false → is_task_at v id x ≡ false → TakesOut v id ys o rest
    → TakesOut v id (xs ++ x ∷ ys) o (xs ++ x ∷ rest)
Takes-right v id xs x ys None rest h a n t =
    let earlier = absent_earlier v id x xs a n (IsRising-before xs x ys h) in
    (absent_join v id xs (x ∷ ys) earlier (n, t.0), ap (λ l. xs ++ x ∷ l) t.1)
Takes-right v id xs x ys (Some y) rest h a n t = (
  xs ++ x ∷ t.0,
  t.1,
  t.2,
  t.3,
  ap (λ l. xs ++ x ∷ l) t.4 ∙ sym (append_assoc xs (x ∷ t.0) (y ∷ t.1)),
  ap (λ l. xs ++ x ∷ l) t.5 ∙ sym (append_assoc xs (x ∷ t.0) t.1),
)

-- what is found on the left side is found in the whole
pub Finds-left : (v id : ℕ) (xs : List Task) (x : Task) (ys : List Task) (o : Option Task)
    → IsRising (xs ++ x ∷ ys) → comes_after v id x ≡ true → FindsTask v id xs o → FindsTask v id (xs ++ x ∷ ys) o
Finds-left v id xs x ys None h a t =
    absent_join v id xs (x ∷ ys) t (is_at-after v id x a, absent_later v id x ys a (IsRising-after xs x ys h))
Finds-left v id xs x ys (Some y) h a t =
    (t.0, t.1 ++ x ∷ ys, t.2, t.3, ap (λ l. l ++ x ∷ ys) t.4 ∙ append_assoc t.0 (y ∷ t.1) (x ∷ ys))

-- what is found on the right side is found in the whole
pub Finds-right : (v id : ℕ) (xs : List Task) (x : Task) (ys : List Task) (o : Option Task)
    → IsRising (xs ++ x ∷ ys) → comes_after v id x ≡ false → is_task_at v id x ≡ false → FindsTask v id ys o
    → FindsTask v id (xs ++ x ∷ ys) o
Finds-right v id xs x ys None h a n t =
    absent_join v id xs (x ∷ ys) (absent_earlier v id x xs a n (IsRising-before xs x ys h)) (n, t)
Finds-right v id xs x ys (Some y) h a n t =
    (xs ++ x ∷ t.0, t.1, t.2, t.3, ap (λ l. xs ++ x ∷ l) t.4 ∙ sym (append_assoc xs (x ∷ t.0) (y ∷ t.1)))
