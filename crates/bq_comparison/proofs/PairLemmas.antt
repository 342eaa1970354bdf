-- Pairs and their rows, one more at the end.
use Rattle.std.proofs.Common.{◌≡◌, ℕ, zero, suc, List, [], ◌∷◌, ◌++◌, length, refl, ap, subst, Some, arith}
use Rattle.std.specs.List.{zip}
use Rattle.std.specs.Prelude.{slice_get}

-- one more on both sides of lists that are as long is one more pair
pub zip-more : {X Y : Type 0} (xs : List X) (ys : List Y) (x : X) (y : Y)
    → length xs ≡ length ys → zip (xs ++ x ∷ []) (ys ++ y ∷ []) ≡ zip xs ys ++ (x, y) ∷ []
zip-more [] [] x y h = refl
zip-more [] (b ∷ bs) x y h = cc
zip-more (a ∷ more) [] x y h = cc
zip-more (a ∷ more) (b ∷ bs) x y h = ap (λ l. (a, b) ∷ l) (zip-more more bs x y (omega arith))

-- what holds of each element at its place, and of one more, holds of each with that one
pub each-more : {X : Type 0} (P : ℕ → X → Type 0) (xs : List X) (x : X)
    → ((i : ℕ) (y : X) → slice_get xs i ≡ Some y → P i y) → P (length xs) x
    → (i : ℕ) (y : X) → slice_get (xs ++ x ∷ []) i ≡ Some y → P i y
each-more P [] x h own zero y e = let same : x ≡ y = cc in subst (P 0) same own
each-more P [] x h own (suc i) y e = cc
each-more P (z ∷ zs) x h own zero y e = h 0 y e
each-more P (z ∷ zs) x h own (suc i) y e = each-more (λ n. P (suc n)) zs x (λ j v f. h (suc j) v f) own i y e
