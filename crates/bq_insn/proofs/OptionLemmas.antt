-- What an option holds.
use Rattle.std.proofs.Common.{◌≡◌, Option, Some, None}

-- one option holds one value
pub some_same : {A : Type 0} (o : Option A) (a b : A) → o ≡ Some a → o ≡ Some b → a ≡ b
some_same o a b p q = cc

-- an option that holds a value is not empty
pub some_none : {A : Type 0} (o : Option A) (a : A) → o ≡ Some a → o ≡ None → ⊥
some_none o a p q = cc
