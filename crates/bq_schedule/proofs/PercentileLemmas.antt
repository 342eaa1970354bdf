-- What is at the place of a percentile.
use Rattle.std.proofs.Common.{◌≡◌, ℕ, zero, suc, ◌<◌, true, List, [], ◌∷◌, length, slice_get, slice_index, is_some, IfSome, IsNone, IsPermutation, ◌↔◌, refl, sym, ap, ◌∙◌, arith, true≢false}
use Rattle.std.proofs.lemmas.List.Sorted.{length_permutation}
use Rattle.std.proofs.lemmas.List.{nil_from_length}
use Rattle.bq_schedule.specs.Percentiles.{rank}

-- what is at a place is the number of that place
pub at_place : (numbers : List ℕ) (k : ℕ) → IfSome (slice_get numbers k) (λ v. v ≡ slice_index numbers k)
at_place [] k = tt
at_place (x ∷ numbers) zero = refl
at_place (x ∷ numbers) (suc k) = at_place numbers k

-- at each place within there is one
stands : (numbers : List ℕ) (k : ℕ) → k < length numbers → is_some (slice_get numbers k) ≡ true
stands [] k h = absurd (omega arith)
stands (x ∷ numbers) zero h = refl
stands (x ∷ numbers) (suc k) h = stands numbers k (omega arith)

-- none stands at the place of a percentile exactly when there is no number, and so no number of which these are an order
pub none_at_rank : (percent : ℕ) (old new : List ℕ) → IsPermutation old new
    → IsNone (slice_get new (rank percent (length new))) ↔ (old ≡ [])
none_at_rank percent old new kept = (there new (length_permutation old new kept), back new (length_permutation old new kept))
  where
    there : (new : List ℕ) → length new ≡ length old → IsNone (slice_get new (rank percent (length new))) → old ≡ []
    there [] same none = nil_from_length old (omega arith)
    there (x ∷ new) same none = absurd (true≢false (sym (stands (x ∷ new) (rank percent (length (x ∷ new))) (omega arith)) ∙ none))

    back : (new : List ℕ) → length new ≡ length old → old ≡ [] → IsNone (slice_get new (rank percent (length new)))
    back [] same empty = refl
    back (x ∷ new) same empty = absurd (omega (arith, ap length empty))
