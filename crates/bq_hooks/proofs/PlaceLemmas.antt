-- The discipline's own place: a processor of the machine that the task's mask allows.
use Rattle.std.proofs.Common.{◌≡◌, ℕ, zero, suc, ◌+◌, ◌<◌, ◌≤◌, ◌^◌, Bool, true, false, cond, List, [], ◌∷◌, filter, Option, Some, None, refl, sym, subst, ◌∙◌, ◌≢◌, inl, inr, arith}
use Rattle.std.specs.List.{range_with_len, AllByRecursion}
use Rattle.std.specs.Prelude.{◌/◌, ◌%◌, IfSome}
use Rattle.std.proofs.lemmas.Bool.{cases_eq}
use Rattle.std.proofs.lemmas.Bool.Decides.{nat_tests}
use Rattle.std.proofs.lemmas.Nat.Bits.{same_from_bits_below, bit_at-zero, bit_at-lt}
use Rattle.std.proofs.lemmas.Option.{same_Some}
use Rattle.bq_disc.specs.Tasks.{Task}
use Rattle.bq_disc.specs.Masks.{allows}
use Rattle.bq_hooks.specs.OwnPlace.{place_before, former_place, first_place, own_place, HasPlace}

-- a processor below a bound that a mask allows
abbrev pub IsFit : ℕ → ℕ → ℕ → Type 0
IsFit bound mask p = (p < bound) × (allows mask p ≡ true)

-- the better of two places that fit fits, also where there is only one
former_fits : (Q : ℕ → Type 0) (loads : List ℕ) (previous : Option ℕ) (p : ℕ) (o : Option ℕ)
    → Q p → IfSome o Q → Q (former_place loads previous p o)
former_fits Q loads previous p None h k = h
former_fits Q loads previous p (Some q) h k = elim (place_before loads previous q p) as (λ b. Q (cond b q p)) [ true ↦ k | false ↦ h ]

-- of some processors that fit the first fits
pub first_fits : (Q : ℕ → Type 0) (loads : List ℕ) (previous : Option ℕ) (ps : List ℕ)
    → AllByRecursion Q ps → IfSome (first_place loads previous ps) Q
first_fits Q loads previous [] h = tt
first_fits Q loads previous (p ∷ ps) h =
    former_fits Q loads previous p (first_place loads previous ps) h.0 (first_fits Q loads previous ps h.1)

-- all of a list still fit after a processor below the bound is added, if the mask allows it
fit_by_test : (b : Bool) (bound mask p : ℕ) (ps : List ℕ) → allows mask p ≡ b → p < bound
    → AllByRecursion (IsFit bound mask) ps
    → AllByRecursion (IsFit bound mask) (cond b (p ∷ ps) ps)
fit_by_test true bound mask p ps e l h = ((l, e), h)
fit_by_test false bound mask p ps e l h = h

-- the processors of a mask fit
pub those_fit : (bound mask a n : ℕ) → a + n ≤ bound → AllByRecursion (IsFit bound mask) (filter (allows mask) (range_with_len a n))
those_fit bound mask a zero l = tt
those_fit bound mask a (suc n) l =
    fit_by_test (allows mask a) bound mask a (filter (allows mask) (range_with_len (a + 1) n)) refl (omega arith)
    (those_fit bound mask (a + 1) n (omega arith))

-- if a list with an item that a test may add is empty, the test failed and the rest is empty
none_by_test : (b : Bool) (p : ℕ) (ps : List ℕ) → cond b (p ∷ ps) ps ≡ [] → (b ≡ false) × (ps ≡ [])
none_by_test true p ps h = cc
none_by_test false p ps h = (refl, h)

-- a processor that the mask does not allow has a bit of 0 in the mask
no_bit : (mask p : ℕ) → allows mask p ≡ false → mask / 2 ^ p % 2 ≡ 0
no_bit mask p h =
    let two : mask / 2 ^ p % 2 < 2 = bit_at-lt mask p in
    grind (arith, nat_tests)

-- a mask that allows none of some processors has none of their bits
no_bits : (mask a n : ℕ) → filter (allows mask) (range_with_len a n) ≡ [] → (i : ℕ) → a ≤ i → i < a + n → mask / 2 ^ i % 2 ≡ 0
no_bits mask a zero h i l k = absurd (omega arith)
no_bits mask a (suc n) h i l k =
    let s = none_by_test (allows mask a) a (filter (allows mask) (range_with_len (a + 1) n)) h in
    elim (cases_eq a i) [
      | inl e ↦ subst (λ j. mask / 2 ^ j % 2 ≡ 0) e (no_bit mask a s.0)
      | inr other ↦ no_bits mask (a + 1) n s.1 i (omega arith) (omega arith)
    ]

-- a mask of as many bits as there are processors that allows none of them is 0
no_mask : (mask count : ℕ) → mask < 2 ^ count → filter (allows mask) (range_with_len 0 count) ≡ [] → mask ≡ 0
no_mask mask count l h =
    same_from_bits_below count mask 0 l (omega arith)
    (λ i k. no_bits mask 0 count h i (omega arith) (omega arith) ∙ sym (bit_at-zero i))

-- of at least one processor, all of which fit, there is a best place, and it fits
some_first : (loads : List ℕ) (previous : Option ℕ) (bound mask : ℕ) (ps : List ℕ)
    → AllByRecursion (IsFit bound mask) ps → ps ≢ []
    → (p : ℕ) × (first_place loads previous ps ≡ Some p) × (p < bound) × (allows mask p ≡ true)
some_first loads previous bound mask [] h n = absurd (n refl)
some_first loads previous bound mask (p ∷ ps) h n =
    let f = first_fits (IsFit bound mask) loads previous (p ∷ ps) h in
    (former_place loads previous p (first_place loads previous ps), refl, f.0, f.1)

-- a task that may use a processor of the machine has a place of its own there
pub own_place_there : (count : ℕ) (loads : List ℕ) (t : Task)
    → HasPlace count t
    → (p : ℕ) × (own_place count loads t ≡ Some p) × (p < count) × (allows t.mask p ≡ true)
own_place_there count loads t h =
    some_first loads t.prev count t.mask (filter (allows t.mask) (range_with_len 0 count)) (those_fit count t.mask 0 count (omega arith))
    (λ e. h.1 (no_mask t.mask count h.0 e))

-- the own place of a task is a processor of the machine
pub own_place_below : (count : ℕ) (loads : List ℕ) (t : Task) (to : ℕ) → HasPlace count t → Some to ≡ own_place count loads t → to < count
own_place_below count loads t to h e =
    let there = own_place_there count loads t h in
    omega (arith, there.2, same_Some to there.0 (e ∙ there.1))
