-- Searches in a list that is cut at a task, and those of its tasks that are at most a mean.
use Rattle.std.proofs.Common.{◌≡◌, ℕ, ◌*◌, ◌<◌, ◌≤◌, Bool, true, false, cond, List, [], ◌∷◌, ◌++◌, Option, Some, None, filter, refl, ap, ◌∙◌, append-nil, find, arith}
use Rattle.std.proofs.lemmas.Bool.Decides.{nat_tests}
use Rattle.bq_disc.specs.Tasks.{Task, runs_before}
use Rattle.bq_disc.specs.Queues.{comes_after}
use Rattle.std.proofs.Math.Nat.{mul-le-mul_left}
use Rattle.bq_disc.specs.Totals.{is_at_most_mean}
use Rattle.bq_disc.specs.Rising.{IsRising, NoneRunsBefore}
use Rattle.bq_tree.proofs.OrderLemmas.{RunsBeforeNone, IsRising-before, IsRising-after}

-- a task found in a list is found in a longer one too, whether it is the first or a later one
front_by_test : (b : Bool) (x y : Task) (o p : Option Task) → cond b (Some x) o ≡ Some y → (o ≡ Some y → p ≡ Some y)
    → cond b (Some x) p ≡ Some y
front_by_test true x y o p h k = h
front_by_test false x y o p h k = k h

-- what is found in the front is found in the whole
pub find-front : (p : Task → Bool) (xs ys : List Task) (y : Task) → find p xs ≡ Some y → find p (xs ++ ys) ≡ Some y
find-front p [] ys y h = cc
find-front p (x ∷ xs) ys y h = front_by_test (p x) x y (find p xs) (find p (xs ++ ys)) h (find-front p xs ys y)

-- if nothing is found in the front, the search goes on behind it, past a first task that fails
back_by_test : (b : Bool) (x : Task) (o p q : Option Task) → cond b (Some x) o ≡ None → (o ≡ None → p ≡ q) → cond b (Some x) p ≡ q
back_by_test true x o p q h k = cc
back_by_test false x o p q h k = k h

-- what is not found in the front is found in the rest
pub find-back : (p : Task → Bool) (xs ys : List Task) → find p xs ≡ None → find p (xs ++ ys) ≡ find p ys
find-back p [] ys h = refl
find-back p (x ∷ xs) ys h = back_by_test (p x) x (find p xs) (find p (xs ++ ys)) (find p ys) h (find-back p xs ys)

-- where none of the front passes the test, the task behind it that does is found
pub find-here : (p : Task → Bool) (xs : List Task) (x : Task) (ys : List Task)
    → find p xs ≡ None → p x ≡ true → find p (xs ++ x ∷ ys) ≡ Some x
find-here p xs x ys h e = find-back p xs (x ∷ ys) h ∙ rw e refl

-- where none of the front nor the task behind it passes the test, what is found is found in the rest
pub find-later : (p : Task → Bool) (xs : List Task) (x : Task) (ys : List Task)
    → find p xs ≡ None → p x ≡ false → find p (xs ++ x ∷ ys) ≡ find p ys
find-later p xs x ys h e = find-back p xs (x ∷ ys) h ∙ rw e refl

-- if x does not come after (v, id), neither does a task that x does not run before
earlier_too : (v id : ℕ) (x y : Task) → comes_after v id x ≡ false → runs_before x y ≡ false → comes_after v id y ≡ false
earlier_too v id x y p q = grind (arith, nat_tests)

-- where a task does not come after (v, id), none before it does
pub none_after : (v id : ℕ) (x : Task) (xs : List Task) → comes_after v id x ≡ false → RunsBeforeNone x xs
    → find (comes_after v id) xs ≡ None
none_after v id x [] a h = refl
none_after v id x (y ∷ xs) a h = let e = earlier_too v id x y a h.0 in rw e (none_after v id x xs a h.1)

-- Tasks at most a mean

-- the tasks among some that are at most a mean
abbrev pub passing : ℕ → ℕ → List Task → List Task
passing w m xs = filter (is_at_most_mean w m) xs

-- the tasks at most a mean of two lists joined are those of the one, then those of the other
passing-append : (w m : ℕ) (xs ys : List Task) → passing w m (xs ++ ys) ≡ passing w m xs ++ passing w m ys
passing-append w m [] ys = refl
passing-append w m (x ∷ xs) ys =
    elim (is_at_most_mean w m x) as (λ b.
    cond b (x ∷ passing w m (xs ++ ys)) (passing w m (xs ++ ys))
    ≡ cond b (x ∷ passing w m xs) (passing w m xs) ++ passing w m ys) [
      | true ↦ ap (λ l. x ∷ l) (passing-append w m xs ys)
      | false ↦ passing-append w m xs ys
    ]

-- a task that x does not run before has at most the v of x
not_above : (x y : Task) → runs_before x y ≡ false → y.v ≤ x.v
not_above x y h = grind (arith, nat_tests)

-- if a task is at most a mean, so are those that it does not run before
passes_too : (w m : ℕ) (x y : Task) → is_at_most_mean w m x ≡ true → runs_before x y ≡ false → is_at_most_mean w m y ≡ true
passes_too w m x y p h =
    let le : w * x.v ≤ m = grind (arith, nat_tests) in
    let more = mul-le-mul_left w (not_above x y h) in
    let both : w * y.v ≤ m = omega arith in
    grind (arith, nat_tests)

-- if a task is above a mean, so are those that do not run before it
fails_too : (w m : ℕ) (x y : Task) → is_at_most_mean w m x ≡ false → runs_before y x ≡ false → is_at_most_mean w m y ≡ false
fails_too w m x y p h =
    let lt : m < w * x.v = grind (arith, nat_tests) in
    let more = mul-le-mul_left w (not_above y x h) in
    let both : m < w * y.v = omega arith in
    grind (arith, nat_tests)

-- if x is at most a mean and runs before none of a list, all of the list are at most the mean
all_pass : (w m : ℕ) (x : Task) (xs : List Task) → is_at_most_mean w m x ≡ true → RunsBeforeNone x xs → passing w m xs ≡ xs
all_pass w m x [] p h = refl
all_pass w m x (y ∷ xs) p h = let e = passes_too w m x y p h.0 in rw e (ap (λ zs. y ∷ zs) (all_pass w m x xs p h.1))

-- all tasks pass that stand before one that does
pub all_pass-before : (w m : ℕ) (xs : List Task) (x : Task) (ys : List Task)
    → IsRising (xs ++ x ∷ ys) → is_at_most_mean w m x ≡ true → passing w m xs ≡ xs
all_pass-before w m xs x ys h e = all_pass w m x xs e (IsRising-before xs x ys h)

-- if x is above a mean and none of a list runs before it, none of the list is at most the mean
none_passes : (w m : ℕ) (x : Task) (xs : List Task) → is_at_most_mean w m x ≡ false → NoneRunsBefore x xs → passing w m xs ≡ []
none_passes w m x [] p h = refl
none_passes w m x (y ∷ xs) p h = let e = fails_too w m x y p h.0 in rw e (none_passes w m x xs p h.1)

-- where a task is above the mean, those that are not stand before it
pub passing-left : (w m : ℕ) (xs : List Task) (x : Task) (ys : List Task)
    → IsRising (xs ++ x ∷ ys) → is_at_most_mean w m x ≡ false → passing w m (xs ++ x ∷ ys) ≡ passing w m xs
passing-left w m xs x ys h e =
    let rest : passing w m (x ∷ ys) ≡ [] = rw e (none_passes w m x ys e (IsRising-after xs x ys h)) in
    passing-append w m xs (x ∷ ys) ∙ ap (λ zs. passing w m xs ++ zs) rest ∙ append-nil (passing w m xs)

-- where a task is at most the mean, so are those before it
pub passing-right : (w m : ℕ) (xs : List Task) (x : Task) (ys : List Task)
    → IsRising (xs ++ x ∷ ys) → is_at_most_mean w m x ≡ true
    → passing w m (xs ++ x ∷ ys) ≡ xs ++ x ∷ passing w m ys
passing-right w m xs x ys h e =
    let rest : passing w m (x ∷ ys) ≡ x ∷ passing w m ys = rw e refl in
    passing-append w m xs (x ∷ ys) ∙ ap (λ zs. zs ++ passing w m (x ∷ ys)) (all_pass w m x xs e (IsRising-before xs x ys h))
    ∙ ap (λ zs. xs ++ zs) rest
