-- What a test tells, and what is read of a list in which a place is set, as a test of the places tells it.
use Rattle.std.proofs.Common.{◌≡◌, ◌≢◌, ℕ, ◌<◌, Bool, true, false, List, length, get_or, sym, ap, ◌∙◌, ◌⊎◌, inl, inr, eqb, cond, get_or-set_same, get_or-set_other}
use Rattle.std.specs.Prelude.{slice_set}
use Rattle.std.proofs.lemmas.Bool.Decides.{eqb_tells}

-- a test tells that the first holds if it is true, and that the second does if it is false; so do `eqb_tells` and `leb_tells`
abbrev pub Tells : Bool → Type 0 → Type 0 → Type 0
Tells test P Q = ((test ≡ true) × P) ⊎ ((test ≡ false) × Q)

-- where a place of a list is set, f reads there what is set, and elsewhere what was there, by a test of the places
get_or-set_if : {X Y : Type 0} (f : X → Y) (xs : List X) (i j : ℕ) (y d : X) (b : Bool) → (i ≡ j → j < length xs) → Tells b (i ≡ j) (i ≢ j)
    → f (get_or (slice_set xs i y) j d) ≡ cond b (f y) (f (get_or xs j d))
get_or-set_if f xs i j y d true inside (inl same) =
    ap (λ k. f (get_or (slice_set xs k y) j d)) same.1 ∙ ap f (get_or-set_same xs j y d (inside same.1))
get_or-set_if f xs i j y d false inside (inl same) = absurd (cc)
get_or-set_if f xs i j y d true inside (inr other) = absurd (cc)
get_or-set_if f xs i j y d false inside (inr other) = ap f (get_or-set_other xs i j y d (λ e. other.1 (sym e)))

-- the same, by the test that the places are equal
pub get_or-set_at : {X Y : Type 0} (f : X → Y) (xs : List X) (i j : ℕ) (y d : X) → (i ≡ j → j < length xs)
    → f (get_or (slice_set xs i y) j d) ≡ cond (eqb i j) (f y) (f (get_or xs j d))
get_or-set_at f xs i j y d inside = get_or-set_if f xs i j y d (eqb i j) inside (eqb_tells i j)
