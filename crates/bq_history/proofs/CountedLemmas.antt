-- Where no place is that of two items, and each is below their number, each place is that of an item.
use Rattle.std.proofs.Common.{◌≡◌, ◌≢◌, ℕ, zero, suc, ◌+◌, ◌<◌, ◌≤◌, Bool, true, false, cond, eqb, List, [], ◌∷◌, length, refl, ap, ◌∙◌, ◌⊎◌, inl, inr, ⊎_elim, arith}
use Rattle.std.proofs.lemmas.Bool.Decides.{eqb_tells}
use Rattle.bq_history.specs.Whole.{Each}
use Rattle.bq_history.specs.Places.{IsAt, times, AreAll}

-- one, where p is below n
abbrev one : ℕ → ℕ → ℕ
one zero p = 0
one (suc n) p = one n p + cond {A = ℕ} (eqb p n) 1 0

abbrev IsEqualTest : Bool → ℕ → ℕ → Type 0
IsEqualTest b p n = ((b ≡ true) × (p ≡ n)) ⊎ ((b ≡ false) × (p ≢ n))

is_none : (p n : ℕ) (b : Bool) → IsEqualTest b p n → p ≢ n → cond {A = ℕ} b 1 0 ≡ 0
is_none p n b (inl (e, same)) apart = absurd (apart same)
is_none p n b (inr (e, other)) apart = rw e refl

one_out : (n p : ℕ) → n ≤ p → one n p ≡ 0
one_out zero p le = refl
one_out (suc n) p le =
    let h = one_out n p (omega arith) in
    let k = is_none p n _ (eqb_tells p n) (λ (e : p ≡ n). omega arith) in omega (arith, h, k)

one_at : (p n m : ℕ) (b : Bool) → IsEqualTest b p n → p < suc n → (p ≡ n → m ≡ 0) → (p < n → m ≡ 1) → m + cond {A = ℕ} b 1 0 ≡ 1
one_at p n m b (inl (e, same)) lt here below = let none = here same in rw e (omega (arith, none))
one_at p n m b (inr (e, apart)) lt here below = let all = below (omega (arith, apart)) in rw e (omega (arith, all))

one_in : (n p : ℕ) → p < n → one n p ≡ 1
one_in zero p lt = absurd (omega arith)
one_in (suc n) p lt = one_at p n (one n p) _ (eqb_tells p n) lt (λ (e : p ≡ n). one_out n p (omega arith)) (one_in n p)

module _ {A : Type 0} (place : A → ℕ) where
  -- how many items have a place below n
  abbrev upto : ℕ → List A → ℕ
  upto zero xs = 0
  upto (suc n) xs = upto n xs + times place n xs

  upto_none : (n : ℕ) → upto n [] ≡ 0
  upto_none zero = refl
  upto_none (suc n) = let h = upto_none n in omega (arith, h)

  upto_more : (n : ℕ) (x : A) (xs : List A) → upto n (x ∷ xs) ≡ one n (place x) + upto n xs
  upto_more zero x xs = refl
  upto_more (suc n) x xs = let h = upto_more n x xs in omega (arith, h)

  upto_all : (n : ℕ) (xs : List A) → Each (λ (x : A). place x < n) xs → upto n xs ≡ length xs
  upto_all n [] each = upto_none n
  upto_all n (x ∷ xs) each =
      let more = upto_more n x xs in
      let first = one_in n (place x) each.0 in
      let rest = upto_all n xs each.1 in
      omega (arith, more, first, rest)

  upto_few : (n : ℕ) (xs : List A) → ((s : ℕ) → times place s xs ≤ 1) → upto n xs ≤ n
  upto_few zero xs few = omega arith
  upto_few (suc n) xs few = let h = upto_few n xs few in let k = few n in omega (arith, h, k)

  upto_full : (n : ℕ) (xs : List A) → ((s : ℕ) → times place s xs ≤ 1) → upto n xs ≡ n → (s : ℕ) → s < n → times place s xs ≡ 1
  upto_full zero xs few full s lt = absurd (omega arith)
  upto_full (suc n) xs few full s lt =
      ⊎_elim (λ (e : s ≡ n).
      let h = upto_few n xs few in
      let k = few n in let t : times place n xs ≡ 1 = omega (arith, h, k, full) in ap (λ (m : ℕ). times place m xs) e ∙ t)
      (λ (b : s < n). let h = upto_few n xs few in let k = few n in upto_full n xs few (omega (arith, h, k, full)) s b)
      (last_or s n lt)
    where
      last_or : (s n : ℕ) → s < suc n → (s ≡ n) ⊎ (s < n)
      last_or zero zero lt = inl refl
      last_or zero (suc n) lt = inr (omega arith)
      last_or (suc s) zero lt = absurd (omega arith)
      last_or (suc s) (suc n) lt = ⊎_elim (λ (e : s ≡ n). inl (ap suc e)) (λ (b : s < n). inr (omega arith)) (last_or s n (omega arith))

  there_at : (s : ℕ) (x : A) (xs : List A) (b : Bool) → IsEqualTest b (place x) s → cond {A = ℕ} b 1 0 + times place s xs ≡ 1
      → (times place s xs ≡ 1 → (j : ℕ) × IsAt place xs s j)
      → (j : ℕ) × IsAt place (x ∷ xs) s j
  there_at s x xs b (inl (e, same)) sum more = (0, (omega arith, λ d. same))
  there_at s x xs b (inr (e, apart)) sum more =
      let h = rw e at sum in
      let w = more (omega (arith, h)) in
      (suc w.0, (let lt = w.1.0 in omega (arith, lt), λ d. w.1.1 d))

  there : (s : ℕ) (xs : List A) → times place s xs ≡ 1 → (j : ℕ) × IsAt place xs s j
  there s [] e = absurd (omega arith)
  there s (x ∷ xs) e = there_at s x xs _ (eqb_tells (place x) s) e (there s xs)

  -- each place is that of an item
  pub all_there : (xs : List A) → Each (λ (x : A). place x < length xs) xs → ((s : ℕ) → times place s xs ≤ 1) → AreAll place xs
  all_there xs below few = λ s lt. there s xs (upto_full (length xs) xs few (upto_all (length xs) xs below) s lt)
