-- Sums over tasks and over processors, of which one has changed.
use Rattle.std.proofs.Common.{◌≡◌, ℕ, zero, suc, ◌+◌, ◌*◌, ◌<◌, ◌≤◌, List, [], ◌∷◌, length, Option, Some, refl, sym, subst, ap, arith, inl, inr}
use Rattle.std.specs.Prelude.{slice_get, slice_set, sum_by}
use Rattle.std.specs.Option.{option_map_or}
use Rattle.std.proofs.lemmas.List.Sums.{sum_by-cons}
use Rattle.std.proofs.lemmas.Option.{none-some, same_Some}
use Rattle.bq_workload.specs.declared.progress.TaskProgress.{TaskProgress}
use Rattle.bq_workload.specs.Accounts.{changed_at}
use Rattle.bq_workload.proofs.ListLemmas.{changed_at-none, some_or_none}
use Rattle.bq_simulate.specs.AtOnce.{in_all}

-- Over processors, or what else stands in a list

-- a sum over a list in which one item is written differs by as much as that item
sum-set : {A : Type 0} (g : A → ℕ) (xs : List A) (n : ℕ) (x y : A)
    → slice_get xs n ≡ Some x → sum_by g (slice_set xs n y) + g x ≡ sum_by g xs + g y
sum-set {A} g [] n x y at = absurd (none-some x at)
sum-set {A} g (z ∷ zs) zero x y at =
    let is : g z ≡ g x = ap g (same_Some z x at) in omega (arith, sum_by-cons g y zs, sum_by-cons g z zs, is)
sum-set {A} g (z ∷ zs) (suc n) x y at = omega (arith, sum_by-cons g z (slice_set zs n y), sum_by-cons g z zs, sum-set g zs n x y at)

-- a sum over a list in which one item has changed differs by as much as that item
pub sum-changed : {A : Type 0} (g : A → ℕ) (f : A → A) (xs : List A) (n : ℕ) (x : A)
    → slice_get xs n ≡ Some x → sum_by g (changed_at f xs n) + g x ≡ sum_by g xs + g (f x)
sum-changed {A} g f xs n x at =
    let is : changed_at f xs n ≡ slice_set xs n (f x) = ap (λ (o : Option A). option_map_or (λ (y : A). slice_set xs n (f y)) o xs) at in
    subst (λ (ys : List A). sum_by g ys + g x ≡ sum_by g xs + g (f x)) (sym is) (sum-set g xs n x (f x) at)

-- a sum over a list is no more where one item has changed to no more
pub sum-no_more : {A : Type 0} (g : A → ℕ) (f : A → A) (xs : List A) (n : ℕ)
    → ((x : A) → slice_get xs n ≡ Some x → g (f x) ≤ g x) → sum_by g (changed_at f xs n) ≤ sum_by g xs
sum-no_more {A} g f xs n less = elim (some_or_none (slice_get xs n)) [
  | inl none ↦ let is : sum_by g (changed_at f xs n) ≡ sum_by g xs = ap (sum_by g) (changed_at-none f xs n none) in omega (arith, is)
  | inr (x, at) ↦ omega (arith, sum-changed g f xs n x at, less x at)
]

-- a sum of items of which each is at most a number is at most that number, once for each item
pub sum-most : {A : Type 0} (g : A → ℕ) (m : ℕ) (xs : List A)
    → ((n : ℕ) (x : A) → slice_get xs n ≡ Some x → g x ≤ m) → sum_by g xs ≤ length xs * m
sum-most {A} g m [] h = omega arith
sum-most {A} g m (x ∷ xs) h = omega (arith, sum_by-cons g x xs, h 0 x refl, sum-most g m xs (λ n. h (suc n)))

-- Over tasks by their numbers

-- a sum over all tasks is no more where each of its terms is no more
pub in_all-no_more : (f g : ℕ → TaskProgress → ℕ) (xs ys : List TaskProgress)
    → length xs ≡ length ys → ((n : ℕ) (x y : TaskProgress) → slice_get xs n ≡ Some x → slice_get ys n ≡ Some y → f n x ≤ g n y)
    → in_all f xs ≤ in_all g ys
in_all-no_more f g [] ys long h = omega arith
in_all-no_more f g (x ∷ xs) [] long h = absurd (omega (arith, long))
in_all-no_more f g (x ∷ xs) (y ∷ ys) long h =
    omega (arith, h 0 x y refl refl, in_all-no_more (λ n. f (suc n)) (λ n. g (suc n)) xs ys (omega (arith, long)) (λ n. h (suc n)))

-- a sum over all tasks is less by as much as one of its terms is
pub in_all-less : (f g : ℕ → TaskProgress → ℕ) (d place : ℕ) (xs ys : List TaskProgress)
    → length xs ≡ length ys → place < length ys
    → ((n : ℕ) (x y : TaskProgress) → slice_get xs n ≡ Some x → slice_get ys n ≡ Some y → f n x ≤ g n y)
    → ((x y : TaskProgress) → slice_get xs place ≡ Some x → slice_get ys place ≡ Some y → f place x + d ≤ g place y)
    → in_all f xs + d ≤ in_all g ys
in_all-less f g d place xs [] long low h here = absurd (omega (arith, low))
in_all-less f g d place [] (y ∷ ys) long low h here = absurd (omega (arith, long))
in_all-less f g d zero (x ∷ xs) (y ∷ ys) long low h here =
    omega (arith, here x y refl refl, in_all-no_more (λ n. f (suc n)) (λ n. g (suc n)) xs ys (omega (arith, long)) (λ n. h (suc n)))
in_all-less f g d (suc place) (x ∷ xs) (y ∷ ys) long low h here =
    omega (
      arith,
      h 0 x y refl refl,
      in_all-less (λ n. f (suc n)) (λ n. g (suc n)) d place xs ys (omega (arith, long)) (omega (arith, low))
          (λ n. h (suc n)) here,
    )
