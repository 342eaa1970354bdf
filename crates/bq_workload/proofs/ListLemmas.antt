-- What stands at a place of a list: after a write or a change there or elsewhere, in a list that is longer by one, in a list of equals.
use Rattle.std.proofs.Common.{◌≡◌, ◌≢◌, ℕ, zero, suc, ◌<◌, ◌≤◌, ◌⊎◌, inl, inr, List, [], ◌∷◌, ◌++◌, length, Option, Some, None, refl, sym, ap, ◌∙◌, arith, replicate}
use Rattle.std.specs.Prelude.{option_and_then, slice_get, slice_set}
use Rattle.std.specs.Option.{option_map_or}
use Rattle.std.proofs.lemmas.Bool.{cases_eq}
use Rattle.std.proofs.lemmas.Option.{none-some, same_Some}
use Rattle.bq_workload.specs.Accounts.{changed_at}

-- there is something or nothing
pub some_or_none : {A : Type 0} (o : Option A) → (o ≡ None) ⊎ ((x : A) × (o ≡ Some x))
some_or_none None = inl refl
some_or_none (Some x) = inr (x, refl)

-- a write to one place leaves the others
pub slice_get-set_other : {A : Type 0} (xs : List A) (n k : ℕ) (x : A) → k ≢ n → slice_get (slice_set xs n x) k ≡ slice_get xs k
slice_get-set_other [] n k x h = refl
slice_get-set_other (y ∷ ys) zero zero x h = absurd (h refl)
slice_get-set_other (y ∷ ys) zero (suc k) x h = refl
slice_get-set_other (y ∷ ys) (suc n) zero x h = refl
slice_get-set_other (y ∷ ys) (suc n) (suc k) x h = slice_get-set_other ys n k x (λ e. h (ap suc e))

-- what is written at a place stands there
pub slice_get-set_here : {A : Type 0} (xs : List A) (n : ℕ) (x y : A) → slice_get xs n ≡ Some y → slice_get (slice_set xs n x) n ≡ Some x
slice_get-set_here [] n x y h = absurd (none-some y h)
slice_get-set_here (z ∷ zs) zero x y h = refl
slice_get-set_here (z ∷ zs) (suc n) x y h = slice_get-set_here zs n x y h

-- a change at one place leaves the others
pub changed_at-others : {A : Type 0} (f : A → A) (xs : List A) (n k : ℕ) → k ≢ n → slice_get (changed_at f xs n) k ≡ slice_get xs k
changed_at-others {A} f xs n k h =
    elim (slice_get xs n) as (λ (o : Option A). slice_get (option_map_or (λ (x : A). slice_set xs n (f x)) o xs) k ≡ slice_get xs k)
    [ None ↦ refl | Some x ↦ slice_get-set_other xs n k (f x) h ]

-- what is at a place is changed
pub changed_at-here : {A : Type 0} (f : A → A) (xs : List A) (n : ℕ) (x : A)
    → slice_get xs n ≡ Some x → slice_get (changed_at f xs n) n ≡ Some (f x)
changed_at-here {A} f xs n x h =
    ap (λ (o : Option A). slice_get (option_map_or (λ (y : A). slice_set xs n (f y)) o xs) n) h
    ∙ slice_get-set_here xs n (f x) x h

-- where nothing stands at a place nothing is changed
pub changed_at-none : {A : Type 0} (f : A → A) (xs : List A) (n : ℕ) → slice_get xs n ≡ None → changed_at f xs n ≡ xs
changed_at-none {A} f xs n h = ap (λ (o : Option A). option_map_or (λ (y : A). slice_set xs n (f y)) o xs) h

-- what is there is changed
pub changed_at-is : {A : Type 0} (f : A → A) (xs : List A) (n : ℕ) (x : A)
    → slice_get xs n ≡ Some x → changed_at f xs n ≡ slice_set xs n (f x)
changed_at-is {A} f xs n x at = ap (λ (o : Option A). option_map_or (λ (y : A). slice_set xs n (f y)) o xs) at

-- what a change leaves as it is can be read as before
pub changed_at-read : {A B : Type 0} (f : A → A) (v : A → Option B)
    → ((x : A) → v (f x) ≡ v x)
    → (xs : List A) (n k : ℕ) → option_and_then v (slice_get (changed_at f xs n) k) ≡ option_and_then v (slice_get xs k)
changed_at-read {A} {B} f v same xs n k = elim (cases_eq k n) [
  | inr other ↦ ap (λ (o : Option A). option_and_then v o) (changed_at-others f xs n k other)
  | inl here ↦ elim (some_or_none (slice_get xs n)) [
    | inl none ↦ ap (λ (ys : List A). option_and_then v (slice_get ys k)) (changed_at-none f xs n none)
    | inr (x, is) ↦
        let new : slice_get (changed_at f xs n) k ≡ Some (f x) = ap (slice_get (changed_at f xs n)) here ∙ changed_at-here f xs n x is in
        let old : slice_get xs k ≡ Some x = ap (slice_get xs) here ∙ is in
        ap (λ (o : Option A). option_and_then v o) new ∙ same x ∙ sym (ap (λ (o : Option A). option_and_then v o) old)
  ]
]

-- what stood at a place before one of them was changed
pub stood_before_change : {A : Type 0} (f : A → A) (xs : List A) (n k : ℕ) (y : A)
    → slice_get (changed_at f xs n) k ≡ Some y → (x : A) × (slice_get xs k ≡ Some x) × ((y ≡ x) ⊎ (y ≡ f x))
stood_before_change {A} f xs n k y at = elim (cases_eq k n) [
  | inr other ↦ (y, sym (changed_at-others f xs n k other) ∙ at, inl refl)
  | inl here ↦ elim (some_or_none (slice_get xs n)) [
    | inl none ↦
        absurd (none-some y (sym (ap (slice_get xs) here ∙ none)
        ∙ sym (ap (λ (o : Option A). slice_get (option_map_or (λ (z : A). slice_set xs n (f z)) o xs) k) none) ∙ at))
    | inr (x, is) ↦ (
      x,
      ap (slice_get xs) here ∙ is,
      inr (same_Some y (f x) (sym at ∙ ap (slice_get (changed_at f xs n)) here ∙ changed_at-here f xs n x is)),
    )
  ]
]

-- what stands in a list stands in a longer one
pub in-longer : {A : Type 0} (xs ys : List A) (k : ℕ) (x : A) → slice_get xs k ≡ Some x → slice_get (xs ++ ys) k ≡ Some x
in-longer [] ys k x h = absurd (none-some x h)
in-longer (z ∷ zs) ys zero x h = h
in-longer (z ∷ zs) ys (suc k) x h = in-longer zs ys k x h

-- one more stands at the end of a list
pub appended : {A : Type 0} (xs : List A) (x : A) → slice_get (xs ++ x ∷ []) (length xs) ≡ Some x
appended [] x = refl
appended (y ∷ ys) x = appended ys x

-- what stands before one more at the end of a list stays
pub appended_others : {A : Type 0} (xs : List A) (x : A) (k : ℕ) → k ≢ length xs → slice_get (xs ++ x ∷ []) k ≡ slice_get xs k
appended_others [] x zero h = absurd (h refl)
appended_others [] x (suc k) h = refl
appended_others (y ∷ ys) x zero h = refl
appended_others (y ∷ ys) x (suc k) h = appended_others ys x k (λ e. h (ap suc e))

-- what stands in a list of equals stands at one of its places, and is one of them
pub at-replicate : {A : Type 0} (count k : ℕ) (x y : A) → slice_get (replicate count x) k ≡ Some y → (k < count) × (x ≡ y)
at-replicate zero k x y h = absurd (none-some y h)
at-replicate (suc n) zero x y h = (omega arith, same_Some x y h)
at-replicate (suc n) (suc k) x y h = let r = at-replicate n k x y h in (omega (arith, r.0), r.1)

-- past the last place of a list of equals nothing stands
pub past-replicate : {A : Type 0} (count k : ℕ) (x : A) → count ≤ k → slice_get (replicate count x) k ≡ None
past-replicate zero k x h = refl
past-replicate (suc n) zero x h = absurd (omega arith)
past-replicate (suc n) (suc k) x h = past-replicate n k x (omega arith)

-- at each place of a list of equals stands the same
pub there-replicate : {A : Type 0} (count k : ℕ) (x : A) → k < count → slice_get (replicate count x) k ≡ Some x
there-replicate zero k x h = absurd (omega arith)
there-replicate (suc n) zero x h = refl
there-replicate (suc n) (suc k) x h = there-replicate n k x (omega arith)
