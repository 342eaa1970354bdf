-- What is known of two lists, and of a task that comes or goes: their totals, and when the first is due.
use Rattle.std.proofs.Common.{◌≡◌, ℕ, ◌+◌, Bool, true, false, cond, List, [], ◌∷◌, ◌++◌, Option, Some, None, refl, ap, sym, ◌∙◌, arith, length-append}
use Rattle.std.proofs.lemmas.Bool.Decides.{nat_tests}
use Rattle.std.specs.Prelude.{◌==◌, ◌&&◌}
use Rattle.bq_disc.specs.Tasks.{Task, inserted, runs_before}
use Rattle.bq_disc.specs.Totals.{total_weight, weighted_sum, sums_of, added, joined}
use Rattle.bq_disc.specs.Dues.{due_of, first_due, is_earlier, earlier_of, earliest_of, sooner_of}
use Rattle.bq_disc.proofs.DueLemmas.{first_due-cons}
use Rattle.bq_disc.specs.declared.deadline.Deadline.{Deadline}
use Rattle.bq_disc.specs.declared.totals.Totals.{Totals}

-- two lists joined weigh what both weigh together
pub total_weight-append : (xs ys : List Task) → total_weight (xs ++ ys) ≡ total_weight xs + total_weight ys
total_weight-append [] ys = omega arith
total_weight-append (x ∷ xs) ys = omega (arith, total_weight-append xs ys)

-- the weighted sum of two lists joined is what theirs are together
pub weighted_sum-append : (xs ys : List Task) → weighted_sum (xs ++ ys) ≡ weighted_sum xs + weighted_sum ys
weighted_sum-append [] ys = omega arith
weighted_sum-append (x ∷ xs) ys = let e = weighted_sum-append xs ys in omega arith

-- the totals of two lists joined
pub sums_of-append : (xs ys : List Task) → sums_of (xs ++ ys) ≡ joined (sums_of xs) (sums_of ys)
sums_of-append xs ys =
    let a = weighted_sum-append xs ys in
    let b = total_weight-append xs ys in
    let c = length-append xs ys in
    cc

-- to be earlier passes on from one deadline to the next, and so does not to be earlier
is_earlier-trans : (x y z : Deadline) → is_earlier y x ≡ true → is_earlier z y ≡ true → is_earlier z x ≡ true
is_earlier-trans x y z p q = grind (arith, nat_tests)

is_earlier-trans_not : (x y z : Deadline) → is_earlier y x ≡ false → is_earlier z y ≡ false → is_earlier z x ≡ false
is_earlier-trans_not x y z p q = grind (arith, nat_tests)

-- the earliest of three is the same whichever two are compared first, by the results of the three tests
assoc_by_tests : (x y z : Deadline) (b c d : Bool) → is_earlier y x ≡ b → is_earlier z y ≡ c → is_earlier z x ≡ d
    → earlier_of (earlier_of x y) z ≡ earlier_of x (earlier_of y z)
assoc_by_tests x y z true true true p q r = rw (p, q, r) refl
assoc_by_tests x y z true true false p q r = let t = is_earlier-trans x y z p q in cc
assoc_by_tests x y z true false d p q r = rw (p, q, p) refl
assoc_by_tests x y z false true d p q r = rw (p, q) refl
assoc_by_tests x y z false false true p q r = let t = is_earlier-trans_not x y z p q in cc
assoc_by_tests x y z false false false p q r = rw (p, q, r, p) refl

-- the earliest of three is the same whichever two are compared first
pub earlier_of-assoc : (x y z : Deadline) → earlier_of (earlier_of x y) z ≡ earlier_of x (earlier_of y z)
earlier_of-assoc x y z = assoc_by_tests x y z (is_earlier y x) (is_earlier z y) (is_earlier z x) refl refl refl

same_due : (x y : Deadline) → is_earlier x y ≡ false → is_earlier y x ≡ false → x ≡ y
same_due x y p q =
    let d : x.deadline ≡ y.deadline = grind (arith, nat_tests) in
    let i : x.id ≡ y.id = grind (arith, nat_tests) in
    ap (λ n. let r : Deadline = record { deadline = n; id = x.id } in r) d
    ∙ ap (λ n. let r : Deadline = record { deadline = y.deadline; id = n } in r) i

-- of two deadlines at most one is earlier than the other
not_both : (x y : Deadline) → is_earlier x y ≡ true → is_earlier y x ≡ true → ⊥
not_both x y p q = grind (arith, nat_tests)

-- the earlier of two is the same in either order, by the results of the two tests
comm_by_tests : (x y : Deadline) (b c : Bool) → is_earlier y x ≡ b → is_earlier x y ≡ c → earlier_of x y ≡ earlier_of y x
comm_by_tests x y true true p q = absurd (not_both x y q p)
comm_by_tests x y true false p q = rw (p, q) refl
comm_by_tests x y false true p q = rw (p, q) refl
comm_by_tests x y false false p q = rw (p, q) (same_due x y q p)

-- the earlier of two is the same in either order
pub earlier_of-comm : (x y : Deadline) → earlier_of x y ≡ earlier_of y x
earlier_of-comm x y = comm_by_tests x y (is_earlier y x) (is_earlier x y) refl refl

-- of a deadline and two that may be missing, the earliest is the same whether the two are compared first or last
earliest_of-sooner : (x : Deadline) (a b : Option Deadline) → earliest_of x (sooner_of a b) ≡ earliest_of (earliest_of x a) b
earliest_of-sooner x None b = refl
earliest_of-sooner x (Some y) None = refl
earliest_of-sooner x (Some y) (Some z) = sym (earlier_of-assoc x y z)

-- the first due of two lists joined is the sooner of the first of each
pub first_due-append : (xs ys : List Task) → first_due (xs ++ ys) ≡ sooner_of (first_due xs) (first_due ys)
first_due-append [] ys = refl
first_due-append (x ∷ xs) ys =
    first_due-cons x (xs ++ ys)
    ∙ ap (λ o. Some (earliest_of (due_of x) o)) (first_due-append xs ys)
    ∙ ap (λ d. Some d) (earliest_of-sooner (due_of x) (first_due xs) (first_due ys))
    ∙ ap (λ o. sooner_of o (first_due ys)) (sym (first_due-cons x xs))

-- the earliest of a node and its two sides is the same, whether the left side is compared last or right after the node
pub sooner_of-fork : (d : Deadline) (a b : Option Deadline) → sooner_of a (Some (earliest_of d b)) ≡ Some (earliest_of (earliest_of d a) b)
sooner_of-fork d None b = refl
sooner_of-fork d (Some x) None = ap (λ e. Some e) (earlier_of-comm x d)
sooner_of-fork d (Some x) (Some y) = ap (λ e. Some e) (sym (earlier_of-assoc x d y) ∙ ap (λ e. earlier_of e y) (earlier_of-comm x d))

-- when the first is due of a task and of those on its two sides
pub first_due-fork : (xs : List Task) (x : Task) (ys : List Task)
    → first_due (xs ++ x ∷ ys) ≡ Some (earliest_of (earliest_of (due_of x) (first_due xs)) (first_due ys))
first_due-fork xs x ys =
    first_due-append xs (x ∷ ys) ∙ ap (λ o. sooner_of (first_due xs) o) (first_due-cons x ys)
    ∙ sooner_of-fork (due_of x) (first_due xs) (first_due ys)

-- of two deadlines and one that may be missing, the earliest is the same whichever of the two is compared last
earliest_of-earlier : (x y : Deadline) (o : Option Deadline) → earlier_of x (earliest_of y o) ≡ earlier_of y (earliest_of x o)
earliest_of-earlier x y None = earlier_of-comm x y
earliest_of-earlier x y (Some z) = sym (earlier_of-assoc x y z) ∙ ap (λ e. earlier_of e z) (earlier_of-comm x y) ∙ earlier_of-assoc y x z

-- when the first is due with one task more
pub first_due-inserted : (t : Task) (xs : List Task) → first_due (inserted t xs) ≡ Some (earliest_of (due_of t) (first_due xs))
first_due-inserted t [] = refl
first_due-inserted t (x ∷ xs) =
    elim (runs_before t x) as (λ b. first_due (cond b (t ∷ x ∷ xs) (x ∷ inserted t xs)) ≡ Some (earliest_of (due_of t) (first_due (x ∷ xs)))) [
      | true ↦ first_due-cons t (x ∷ xs)
      | false ↦ first_due-cons x (inserted t xs)
          ∙ ap (λ o. Some (earliest_of (due_of x) o)) (first_due-inserted t xs)
          ∙ ap (λ d. Some d) (earliest_of-earlier (due_of x) (due_of t) (first_due xs))
          ∙ ap (λ o. Some (earliest_of (due_of t) o)) (sym (first_due-cons x xs))
    ]

-- totals with equal sums and equal counts are equal
same_sums : (a b c d : ℕ) (m n : ℕ) → a ≡ b → c ≡ d → m ≡ n
    → (let x : Totals = record { moment = a; weight = c; count = m } in x)
    ≡ (let y : Totals = record { moment = b; weight = d; count = n } in y)
same_sums a b c d m n p q r = cc

-- if one list's totals are another's with a task added, they are so with one more task in front of both
added_to : (x t : Task) (xs ys : List Task) → sums_of ys ≡ added (sums_of xs) t → sums_of (x ∷ ys) ≡ added (sums_of (x ∷ xs)) t
added_to x t xs ys e =
    let moment = ap (λ (s : Totals). s.moment) e in
    let weight = ap (λ (s : Totals). s.weight) e in
    let count = ap (λ (s : Totals). s.count) e in
    same_sums _ _ _ _ _ _ (omega arith) (omega arith) (omega arith)

-- the totals with one task more
pub sums_of-inserted : (t : Task) (xs : List Task) → sums_of (inserted t xs) ≡ added (sums_of xs) t
sums_of-inserted t [] = refl
sums_of-inserted t (x ∷ xs) =
    elim (runs_before t x) as (λ b. sums_of (cond b (t ∷ x ∷ xs) (x ∷ inserted t xs)) ≡ added (sums_of (x ∷ xs)) t) [
      | true ↦ refl
      | false ↦ added_to x t xs (inserted t xs) (sums_of-inserted t xs)
    ]

-- the totals of a list without one of its tasks, and that task
pub sums_of-cut : (xs : List Task) (t : Task) (ys : List Task) → sums_of (xs ++ t ∷ ys) ≡ added (sums_of (xs ++ ys)) t
sums_of-cut [] t ys = refl
sums_of-cut (x ∷ xs) t ys = added_to x t (xs ++ ys) (xs ++ t ∷ ys) (sums_of-cut xs t ys)

-- what is added twice over is the same
pub added-cancel : (s r : Totals) (t : Task) → added s t ≡ added r t → s ≡ r
added-cancel s r t e =
    let moment = ap (λ (q : Totals). q.moment) e in
    let weight = ap (λ (q : Totals). q.weight) e in
    let count = ap (λ (q : Totals). q.count) e in
    same_sums _ _ _ _ _ _ (omega arith) (omega arith) (omega arith)

-- the first due of a list is the earlier of one of its tasks and the first of all others
pub first_due-cut : (xs : List Task) (t : Task) (ys : List Task)
    → first_due (xs ++ t ∷ ys) ≡ Some (earliest_of (due_of t) (first_due (xs ++ ys)))
first_due-cut xs t ys =
    first_due-fork xs t ys
    ∙ ap (λ d. Some d) (sym (earliest_of-sooner (due_of t) (first_due xs) (first_due ys)))
    ∙ ap (λ o. Some (earliest_of (due_of t) o)) (sym (first_due-append xs ys))

-- whether two have one deadline and one id
abbrev pub is_same_due : Deadline → Deadline → Bool
is_same_due a b = a.deadline == b.deadline && a.id == b.id

-- each deadline is the same as itself
itself : (d : Deadline) → is_same_due d d ≡ true
itself d = grind (arith, nat_tests)

-- if the earlier of two deadlines is d, and d is not the first of them, it is the second
other_by_test : (x y d : Deadline) (b : Bool) → is_earlier y x ≡ b → earlier_of x y ≡ d → is_same_due d x ≡ false → y ≡ d
other_by_test x y d true e f n = let here : earlier_of x y ≡ y = rw e refl in sym here ∙ f
other_by_test x y d false e f n =
    let here : earlier_of x y ≡ x = rw e refl in
    let same : x ≡ d = sym here ∙ f in
    let t = ap (λ z. is_same_due d z) same ∙ itself d in
    cc

-- where another is the first, it stays so when one goes
pub other_is_first : (x d : Deadline) (o : Option Deadline) → Some (earliest_of x o) ≡ Some d → is_same_due d x ≡ false → o ≡ Some d
other_is_first x d None e n =
    let same : x ≡ d = cc in
    let t = ap (λ z. is_same_due d z) same ∙ itself d in
    cc
other_is_first x d (Some y) e n = let same : earlier_of x y ≡ d = cc in ap (λ z. Some z) (other_by_test x y d (is_earlier y x) refl same n)

pub ruleset totals_facts = (first_due-fork, sums_of-append)
