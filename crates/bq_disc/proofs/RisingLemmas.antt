-- A queue that rises by (v, id) goes on to rise when a task comes or goes.
use Rattle.std.proofs.Common.{◌≡◌, ℕ, Bool, true, false, cond, eqb, List, [], ◌∷◌, Option, Some, None, refl, ap, sym, arith}
use Rattle.std.specs.Prelude.{IfSome, find}
use Rattle.std.proofs.lemmas.Bool.Decides.{nat_tests}
use Rattle.bq_disc.specs.Tasks.{Task, inserted, without, runs_before, first_by, former}
use Rattle.bq_disc.specs.Queues.{follows}
use Rattle.bq_disc.specs.Rising.{IsRising, NoneRunsBefore}

-- what runs not before a task, which runs not before another, runs not before that one
pub not_before : (x y z : Task) → runs_before x y ≡ false → runs_before y z ≡ false → runs_before x z ≡ false
not_before x y z p q = grind (arith, nat_tests)

-- of two tasks, if the one runs before the other, the other does not run before it
before_not : (x y : Task) → runs_before x y ≡ true → runs_before y x ≡ false
before_not x y p = grind (arith, nat_tests)

-- if t runs before x, and no task of a list before x, then none of the list runs before t
none_later : (t x : Task) (xs : List Task) → runs_before t x ≡ true → NoneRunsBefore x xs → NoneRunsBefore t xs
none_later t x [] b h = tt
none_later t x (y ∷ xs) b h = (not_before y x t h.0 (before_not t x b), none_later t x xs b h.1)

-- if neither a task that comes nor any in the list runs before x, none of the list with that task does
none_inserted : (x t : Task) (xs : List Task) → runs_before t x ≡ false → NoneRunsBefore x xs → NoneRunsBefore x (inserted t xs)
none_inserted x t [] b h = (b, tt)
none_inserted x t (y ∷ xs) b h =
    elim (runs_before t y) as (λ c. NoneRunsBefore x (cond c (t ∷ y ∷ xs) (y ∷ inserted t xs))) [
      | true ↦ (b, h)
      | false ↦ (h.0, none_inserted x t xs b h.1)
    ]

-- the list still rises when a task comes before its first task, or behind it in its place in the rest
rising_by_test : (b : Bool) (t x : Task) (xs : List Task) → runs_before t x ≡ b → IsRising (x ∷ xs) → IsRising (inserted t xs)
    → IsRising (cond b (t ∷ x ∷ xs) (x ∷ inserted t xs))
rising_by_test true t x xs e h p = ((before_not t x e, none_later t x xs e h.0), h)
rising_by_test false t x xs e h p = (none_inserted x t xs e h.0, p)

-- a task that comes in its place
pub IsRising-inserted : (t : Task) (xs : List Task) → IsRising xs → IsRising (inserted t xs)
IsRising-inserted t [] h = (tt, tt)
IsRising-inserted t (x ∷ xs) h = rising_by_test (runs_before t x) t x xs refl h (IsRising-inserted t xs h.1)

-- if no task of a list runs before x, none does once one has left
none_without : (x : Task) (j : ℕ) (xs : List Task) → NoneRunsBefore x xs → NoneRunsBefore x (without j xs)
none_without x j [] h = tt
none_without x j (y ∷ xs) h =
    elim (eqb y.id j) as (λ b. NoneRunsBefore x (cond b xs (y ∷ without j xs))) [
      | true ↦ h.1
      | false ↦ (h.0, none_without x j xs h.1)
    ]

-- a task that goes
pub IsRising-without : (j : ℕ) (xs : List Task) → IsRising xs → IsRising (without j xs)
IsRising-without j [] h = tt
IsRising-without j (x ∷ xs) h =
    elim (eqb x.id j) as (λ b. IsRising (cond b xs (x ∷ without j xs))) [
      | true ↦ h.1
      | false ↦ (none_without x j xs h.0, IsRising-without j xs h.1)
    ]

-- a task that none of the rest runs before is the first of all
least_by_rest : (x : Task) (o : Option Task) → IfSome o (λ y. runs_before y x ≡ false) → former runs_before x o ≡ x
least_by_rest x None h = refl
least_by_rest x (Some y) h = rw h refl

-- if no task of a list runs before x, the list's first task does not, by cases: of a task and the rest's first, of a list
none_of_former : (x y : Task) (o : Option Task) → runs_before y x ≡ false → IfSome o (λ z. runs_before z x ≡ false)
    → runs_before (former runs_before y o) x ≡ false
none_of_former x y None h k = h
none_of_former x y (Some z) h k =
    elim (runs_before z y) as (λ b. runs_before (cond b z y) x ≡ false) [
      | true ↦ k
      | false ↦ h
    ]

none_first : (x : Task) (xs : List Task) → NoneRunsBefore x xs → IfSome (first_by runs_before xs) (λ y. runs_before y x ≡ false)
none_first x [] h = tt
none_first x (y ∷ xs) h = none_of_former x y (first_by runs_before xs) h.0 (none_first x xs h.1)

-- the head of a list that rises is its first task by (v, id)
pub head-first_by : (xs : List Task) → IsRising xs → find (follows None) xs ≡ first_by runs_before xs
head-first_by [] h = refl
head-first_by (x ∷ xs) h = ap (λ y. Some y) (sym (least_by_rest x (first_by runs_before xs) (none_first x xs h.0)))

pub ruleset rising_facts = (IsRising-inserted, IsRising-without)
