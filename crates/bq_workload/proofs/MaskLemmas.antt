-- The processors of a mask.
use Rattle.std.proofs.Common.{◌≡◌, ℕ, zero, suc, ◌+◌, ◌<◌, ◌≤◌, ◌||◌, Bool, false, true, Option, None, Some, is_some, IfSome, get_or, refl, sym, ap, ◌∙◌, subst, ⊎_elim, arith}
use Rattle.std.specs.List.{list_any, range_with_len}
use Rattle.std.proofs.lemmas.Bool.{cases_lt, false≢true}
use Rattle.std.proofs.lemmas.List.Folds.{list_any_at}
use Rattle.std.proofs.lemmas.List.FromFn.{get_or-range_with_len, length-range_with_len}
use Rattle.bq_workload.specs.Soundness.{IsFirstAllowed, allows_one}
use Rattle.bq_disc.specs.Masks.{allows}

-- none of this many processors, and not the next
pub none-more : (mask count : ℕ) → ((lower : ℕ) → lower < count → allows mask lower ≡ false) → allows mask count ≡ false
    → (lower : ℕ) → lower < count + 1
    → allows mask lower ≡ false
none-more mask count before next lower low =
    ⊎_elim (λ (l : lower < count). before lower l)
    (λ (h : count ≤ lower). let same : lower ≡ count = omega (arith, low, h) in subst (λ (n : ℕ). allows mask n ≡ false) (sym same) next)
    (cases_lt lower count)

-- where a mask allows no processor of a range, no search of that range finds one
none-from : (mask first count : ℕ) → ((p : ℕ) → first ≤ p → p < first + count → allows mask p ≡ false)
    → list_any (allows mask) (range_with_len first count) ≡ false
none-from mask first zero h = refl
none-from mask first (suc count) h =
    ap (λ (b : Bool). b || list_any (allows mask) (range_with_len (first + 1) count)) (h first (omega arith) (omega arith))
    ∙ none-from mask (first + 1) count (λ p low high. h p (omega (arith, low)) (omega (arith, high)))

-- where a mask allows none of this many processors
pub none-allowed : (mask processors : ℕ) → ((lower : ℕ) → lower < processors → allows mask lower ≡ false)
    → allows_one processors mask ≡ false
none-allowed mask processors h = none-from mask 0 processors (λ p low high. h p (omega (arith, high)))

-- where there is a first processor that a mask allows, the mask allows one
one-allowed : (processors mask first : ℕ) → IsFirstAllowed processors mask first → allows_one processors mask ≡ true
one-allowed processors mask first h =
    let at : get_or (range_with_len 0 processors) first 0 ≡ first = get_or-range_with_len 0 processors first 0 h.within ∙ omega arith in
    list_any_at (allows mask) (range_with_len 0 processors) first 0
    (omega (arith, h.within, length-range_with_len 0 processors)) (ap (allows mask) at ∙ h.allowed)

-- where the first that it allows was found
pub allowed-where-found : (processors mask : ℕ) (o : Option ℕ)
    → is_some o ≡ true → IfSome o (IsFirstAllowed processors mask) → allows_one processors mask ≡ true
allowed-where-found processors mask None e h = absurd (false≢true e)
allowed-where-found processors mask (Some first) e h = one-allowed processors mask first h
