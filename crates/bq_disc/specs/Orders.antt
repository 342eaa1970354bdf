-- Laws of the first task by an order.
use Rattle.std.specs.Prelude.{◌≢◌, Bool, true, false, cond, List, [], ◌∷◌, Option, Some, None, Contains, IsSome, IfSome, refl}
use Rattle.std.proofs.Common.{arith, suc}
use Rattle.bq_disc.specs.Tasks.{Task, first_by, former}

-- a list contains its first task
pub Contains-first : (x : Task) (xs : List Task) → Contains (x ∷ xs) x
Contains-first x xs = (0, omega arith, refl)

-- a list contains what its rest contains
pub Contains-later : (x y : Task) (xs : List Task) → Contains xs y → Contains (x ∷ xs) y
Contains-later x y xs h = (suc h.0, omega (arith, h.1), h.2)

former_is_one : (b : Bool) (x : Task) (y : Task) (xs : List Task) → Contains xs y → Contains (x ∷ xs) (cond b y x)
former_is_one true x y xs h = Contains-later x y xs h
former_is_one false x y xs h = Contains-first x xs

member_former : (before : Task → Task → Bool) (x : Task) (xs : List Task) (o : Option Task) → IfSome o (Contains xs) → Contains (x ∷ xs) (former before x o)
member_former before x xs None h = Contains-first x xs
member_former before x xs (Some y) h = former_is_one (before y x) x y xs h

-- the first of some tasks is one of them
pub first_by-member : (before : Task → Task → Bool) (xs : List Task) → IfSome (first_by before xs) (Contains xs)
first_by-member before [] = tt
first_by-member before (x ∷ xs) = member_former before x xs (first_by before xs) (first_by-member before xs)

-- there is a first task if there is any task
pub first_by-exists : (before : Task → Task → Bool) (xs : List Task) → xs ≢ [] → IsSome (first_by before xs)
first_by-exists before [] h = absurd (h refl)
first_by-exists before (x ∷ xs) h = refl
