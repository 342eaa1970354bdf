-- One more item comes to its place.
use Rattle.std.proofs.Common.{◌≡◌, ◌≢◌, ℕ, ◌+◌, ◌<◌, ◌≤◌, List, [], ◌∷◌, length, refl, sym, ap, ◌∙◌, ⊎_elim, arith}
use Rattle.std.specs.Prelude.{slice_index_or}
use Rattle.std.specs.List.{SwappedAt}
use Rattle.std.proofs.lemmas.Bool.{cases_lt}
use mathlib.Core.Logic.{dite}
use native.Mathlib.Decide.{ℕ_discrete}
use Rattle.bq_history.specs.Places.{IsAt, AreAll, ArePlaced, AreFrom}

module _ {A : Type 0} where
  -- some item, where a place below the length says that there is one
  pub item_at : (xs : List A) (j : ℕ) → j < length xs → A
  item_at [] j lt = absurd (omega arith)
  item_at (x ∷ xs) j lt = x

  -- each item of a list is one of that list
  pub all_from : (xs : List A) → AreFrom xs xs
  all_from xs = λ k lt. (k, lt, λ d. refl)

module _ {A : Type 0} (place : A → ℕ) (xs ys : List A) (k at : ℕ) (low : k < length xs) (after : k ≤ at)
    (long : length ys ≡ length xs) (found : IsAt place xs k at) (swapped : SwappedAt xs ys k at) where
  -- one more item stands at its place
  pub more_placed : ArePlaced place k xs → ArePlaced place (k + 1) ys
  more_placed placed = λ m lt d. dite (ℕ_discrete m k)
      (λ (e : m ≡ k). let here = swapped.0 d in let is = found.1 d in subst_place m d e (ap place here ∙ is))
      (λ (n : m ≢ k). ap place (swapped.2 m d n (λ (e : m ≡ at). omega (arith, n, after))) ∙ placed m (omega (arith, n)) d)
    where
      subst_place : (m : ℕ) (d : A) → m ≡ k → place (slice_index_or ys k d) ≡ k → place (slice_index_or ys m d) ≡ m
      subst_place m d e h = ap (λ (i : ℕ). place (slice_index_or ys i d)) e ∙ (h ∙ sym e)

  -- each place is still that of an item
  pub still_all : AreAll place xs → AreAll place ys
  still_all all = λ s lt.
      let w = all s (omega (arith, long)) in
      dite (ℕ_discrete w.0 k) (λ (e : w.0 ≡ k). (
        at,
        (
          omega (arith, long, found.0),
          λ d. ap place (swapped.1 d) ∙ (ap (λ (i : ℕ). place (slice_index_or xs i d)) (sym e) ∙ w.1.1 d),
        ),
      )) (λ (n : w.0 ≢ k).
      dite (ℕ_discrete w.0 at) (λ (e : w.0 ≡ at). (
        k,
        (
          omega (arith, long, low),
          λ d. ap place (swapped.0 d) ∙ (ap (λ (i : ℕ). place (slice_index_or xs i d)) (sym e) ∙ w.1.1 d),
        ),
      )) (λ (o : w.0 ≢ at). (w.0, (omega (arith, long, w.1.0), λ d. ap place (swapped.2 w.0 d n o) ∙ w.1.1 d))))

  -- each item is still one of the old
  pub still_from : (old : List A) → AreFrom old xs → AreFrom old ys
  still_from old from = λ m lt. dite (ℕ_discrete m k)
      (λ (e : m ≡ k). let w = from at found.0 in (w.0, w.1, λ d. ap (λ (i : ℕ). slice_index_or ys i d) e ∙ (swapped.0 d ∙ w.2 d)))
      (λ (n : m ≢ k). dite (ℕ_discrete m at)
      (λ (e : m ≡ at). let w = from k low in (w.0, w.1, λ d. ap (λ (i : ℕ). slice_index_or ys i d) e ∙ (swapped.1 d ∙ w.2 d)))
      (λ (o : m ≢ at). let w = from m (omega (arith, long)) in (w.0, w.1, λ d. swapped.2 m d n o ∙ w.2 d)))

-- the item of place k is not among those before it, which stand at their own
pub not_before : {A : Type 0} (place : A → ℕ) (xs : List A) (k : ℕ)
    → ArePlaced place k xs → (w : (j : ℕ) × IsAt place xs k j) → (j : ℕ) × (k ≤ j) × IsAt place xs k j
not_before place xs k placed w = ⊎_elim
    (λ (lt : w.0 < k).
    let d = item_at xs w.0 w.1.0 in
    let a = placed w.0 lt d in
    let b = w.1.1 d in
    absurd (omega (arith, a, b, lt)))
    (λ (le : k ≤ w.0). (w.0, le, w.1))
    (cases_lt w.0 k)
