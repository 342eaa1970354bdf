-- Items at their places are a list, where each is what the list has at that place.
use Rattle.std.proofs.Common.{◌≡◌, ℕ, zero, suc, ◌<◌, Bool, true, false, cond, eqb, List, [], ◌∷◌, length, map, refl, sym, ap, ◌∙◌, ◌⊎◌, inl, inr, arith}
use Rattle.std.specs.Prelude.{slice_index_or}
use Rattle.std.proofs.lemmas.Bool.Decides.{eqb_tells}
use Rattle.std.proofs.lemmas.List.{get_or_default}
use Rattle.bq_history.specs.Whole.{count, Each}
use Rattle.bq_history.specs.Places.{times, ArePlaced, AreFrom, IsAtItsPlace}
use Rattle.bq_history.proofs.PlacingLemmas.{item_at}

module _ {A : Type 0} where
  -- what each has, the item at a place has
  each_at : (P : A → Type 0) (xs : List A) (j : ℕ) (d : A) → Each P xs → j < length xs → P (slice_index_or xs j d)
  each_at P [] j d h lt = absurd (omega arith)
  each_at P (x ∷ xs) zero d h lt = h.0
  each_at P (x ∷ xs) (suc j) d h lt = each_at P xs j d h.1 (omega arith)

  -- two lists of one length that agree at each place
  same_list : (xs ys : List A) → length xs ≡ length ys
      → ((k : ℕ) → k < length xs → (d : A) → slice_index_or xs k d ≡ slice_index_or ys k d)
      → xs ≡ ys
  same_list [] [] long same = refl
  same_list [] (y ∷ ys) long same = absurd (omega (arith, long))
  same_list (x ∷ xs) [] long same = absurd (omega (arith, long))
  same_list (x ∷ xs) (y ∷ ys) long same =
      let first : x ≡ y = same 0 (omega arith) x in
      let rest = same_list xs ys (omega (arith, long)) (λ k lt d. same (suc k) (omega (arith, lt)) d) in
      ap (λ (z : A). z ∷ xs) first ∙ ap (λ (zs : List A). y ∷ zs) rest

module _ {A B : Type 0} (place : A → ℕ) (content : A → B) (d : B) (list : List B) where
  abbrev There : A → Type 0
  There = IsAtItsPlace place content d list

  -- its place is below the length
  pub below : (n : ℕ) (xs : List A) → length list ≡ n → Each There xs → Each (λ (x : A). place x < n) xs
  below n [] long each = tt
  below n (x ∷ xs) long each = (let lt = each.0.0 in omega (arith, long, lt), below n xs long each.1)

  map_at : (ys : List A) (k : ℕ) (y : A) (e : B) → k < length ys → slice_index_or (map content ys) k e ≡ content (slice_index_or ys k y)
  map_at [] k y e lt = absurd (omega arith)
  map_at (x ∷ ys) zero y e lt = refl
  map_at (x ∷ ys) (suc k) y e lt = map_at ys k y e (omega arith)

  map_length : (ys : List A) → length (map content ys) ≡ length ys
  map_length [] = refl
  map_length (y ∷ ys) = let h = map_length ys in omega (arith, h)

  -- brought to their places, the items' contents are the list
  pub is_list : (xs ys : List A) → Each There xs → length ys ≡ length list → ArePlaced place (length ys) ys → AreFrom xs ys
      → map content ys ≡ list
  is_list xs ys each long placed from =
      same_list (map content ys) list (map_length ys ∙ long) (λ k lt e.
      let here : k < length ys = omega (arith, lt, map_length ys) in
      let y = item_at ys k here in
      let w = from k here in
      let there = each_at There xs w.0 y each w.1 in
      let same : slice_index_or ys k y ≡ slice_index_or xs w.0 y = w.2 y in
      let at : place (slice_index_or xs w.0 y) ≡ k = ap place (sym same) ∙ placed k here y in
      map_at ys k y e here
      ∙ (ap content same
      ∙ (sym there.1 ∙ (ap (λ (i : ℕ). slice_index_or list i d) at ∙ get_or_default list k d e (omega (arith, here, long))))))

-- a place that is counted at most once by its own name is that of one item at most
turned : (a b : ℕ) (x y : Bool) → ((x ≡ true) × (a ≡ b)) ⊎ ((x ≡ false) × ¬ (a ≡ b))
    → ((y ≡ true) × (b ≡ a)) ⊎ ((y ≡ false) × ¬ (b ≡ a))
    → cond {A = ℕ} x 1 0 ≡ cond {A = ℕ} y 1 0
turned a b x y (inl p) (inl q) = ap (λ (z : Bool). cond {A = ℕ} z 1 0) (p.0 ∙ sym q.0)
turned a b x y (inl p) (inr q) = absurd (q.1 (sym p.1))
turned a b x y (inr p) (inl q) = absurd (p.1 (sym q.1))
turned a b x y (inr p) (inr q) = ap (λ (z : Bool). cond {A = ℕ} z 1 0) (p.0 ∙ sym q.0)

-- the count of a place, asked the other way round
pub times_turned : {A : Type 0} (place : A → ℕ) (s : ℕ) (xs : List A) → times place s xs ≡ count (λ (x : A). eqb s (place x)) xs
times_turned place s [] = refl
times_turned place s (x ∷ xs) =
    let h = times_turned place s xs in
    let e = turned (place x) s (eqb (place x) s) (eqb s (place x)) (eqb_tells (place x) s) (eqb_tells s (place x)) in
    omega (arith, h, e)
