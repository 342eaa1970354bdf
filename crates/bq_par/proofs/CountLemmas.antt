-- Sums and lists of what the threads of a run bring back.
use Rattle.std.proofs.Common.{◌≡◌, ℕ, zero, suc, ◌+◌, ◌*◌, ◌<◌, List, [], ◌∷◌, ◌++◌, map, length, refl, sym, ap, ◌∙◌, subst, arith}
use Rattle.std.specs.List.{All, sum_by}
use Rattle.std.proofs.lemmas.List.{map_push}
use Rattle.std.proofs.lemmas.List.Sums.{sum_by-cons}
use Rattle.bq_history.specs.Whole.{total, Each}
use Rattle.bq_history.specs.declared.shared_state.Receipt.{Receipt}
use Rattle.bq_shared.specs.Calls.{fresh_callers}

module _ {A : Type 0} where
  -- two names for one sum
  pub total_sum : (f : A → ℕ) (xs : List A) → total f xs ≡ sum_by f xs
  total_sum f [] = refl
  total_sum f (x ∷ xs) = ap (λ n. f x + n) (total_sum f xs) ∙ sym (sum_by-cons f x xs)

  -- the sum over items of which each counts n is their number times n
  pub total_times : (f : A → ℕ) (n : ℕ) (xs : List A) → Each (λ x. f x ≡ n) xs → total f xs ≡ length xs * n
  total_times f n [] each = omega arith
  total_times f n (x ∷ xs) (first, rest) = let h = total_times f n xs rest in omega (arith, first, h)

  -- what holds of each item holds of the item at each place
  pub each_at : (P : A → Type 0) (xs : List A) → Each P xs → All P xs
  each_at P [] each k d lt = absurd (omega arith)
  each_at P (x ∷ xs) (first, rest) zero d lt = first
  each_at P (x ∷ xs) (first, rest) (suc k) d lt = each_at P xs rest k d (omega arith)

-- the sum of a list's images
pub total_map : {A B : Type 0} (f : B → ℕ) (g : A → B) (xs : List A) → total f (map g xs) ≡ sum_by (λ x. f (g x)) xs
total_map f g [] = refl
total_map f g (x ∷ xs) = ap (λ n. f (g x) + n) (total_map f g xs) ∙ sym (sum_by-cons (λ y. f (g y)) x xs)

-- two lists with the same images have the same images with one more item of the same image each
pub same_more : {A B C : Type 0} (f : A → C) (g : B → C) (xs : List A) (ys : List B) (x : A) (y : B)
    → map g ys ≡ map f xs → g y ≡ f x → map g (ys ++ y ∷ []) ≡ map f (xs ++ x ∷ [])
same_more f g xs ys x y e here =
    map_push g ys y ∙ (ap (λ zs. zs ++ g y ∷ []) e ∙ (ap (λ z. map f xs ++ z ∷ []) here ∙ sym (map_push f xs x)))

module _ {A B X : Type 0} (f : A → List X) (g : B → List X) where
  -- what holds of all items of the lists of one side holds of those of the other side, if the lists are the same
  same_items : (P : X → Type 0) (Q : A → Type 0) (xs : List A) (ys : List B)
      → map g ys ≡ map f xs → Each (λ x. Each P (f x) × Q x) xs → Each (λ y. All P (g y)) ys
  same_items P Q [] [] e each = tt
  same_items P Q [] (y ∷ ys) e each = absurd (cc)
  same_items P Q (x ∷ xs) [] e each = absurd (cc)
  same_items P Q (x ∷ xs) (y ∷ ys) e (first, rest) =
      let head : g y ≡ f x = cc in
      let tail : map g ys ≡ map f xs = cc in
      (rw head (each_at P (f x) first.0), same_items P Q xs ys tail rest)

  -- it holds of them at each place, too
  pub all_items : (P : X → Type 0) (Q : A → Type 0) (xs : List A) (ys : List B)
      → map g ys ≡ map f xs → Each (λ x. Each P (f x) × Q x) xs → All (λ y. All P (g y)) ys
  all_items P Q xs ys e each = each_at (λ y. All P (g y)) ys (same_items P Q xs ys e each)

  -- the lists of both sides have as many items together
  pub same_many : (xs : List A) (ys : List B) → map g ys ≡ map f xs → sum_by (λ y. length (g y)) ys ≡ total (λ x. length (f x)) xs
  same_many xs ys e = sym (total_sum (λ y. length (g y)) ys) ∙ many xs ys e
    where
      many : (vs : List A) (ws : List B) → map g ws ≡ map f vs → total (λ y. length (g y)) ws ≡ total (λ x. length (f x)) vs
      many [] [] e = refl
      many [] (w ∷ ws) e = absurd (cc)
      many (v ∷ vs) [] e = absurd (cc)
      many (v ∷ vs) (w ∷ ws) e =
          let head : g w ≡ f v = cc in
          let tail : map g ws ≡ map f vs = cc in
          let rest = many vs ws tail in
          let here = ap (λ l. length l) head in
          omega (arith, here, rest)

-- there are n fresh callers
pub fresh_many : (R : Type 0) (s n : ℕ) → let l : List (ℕ × List (Receipt R)) = fresh_callers s n in length l ≡ n
fresh_many R s zero = refl
fresh_many R s (suc n) = ap suc (fresh_many R (s + 1) n)

-- the numbers of n fresh callers from s on are below s + n, and none has a receipt
pub fresh_none : (R : Type 0) (s n : ℕ) → Each (λ (c : ℕ × List (Receipt R)). (c.0 < s + n) × (c.1 ≡ [])) (fresh_callers s n)
fresh_none R s zero = tt
fresh_none R s (suc n) =
    let low : s < s + suc n = omega arith in
    let more : s + 1 + n ≡ s + suc n = omega arith in (
      (low, refl),
      subst (λ (k : ℕ). Each (λ (c : ℕ × List (Receipt R)). (c.0 < k) × (c.1 ≡ [])) (fresh_callers (s + 1) n)) more
          (fresh_none R (s + 1) n),
    )

-- the number of each fresh seat is below that, and none has a receipt
pub fresh_at : (R : Type 0) (n : ℕ) (js : List (ℕ × List (Receipt R)))
    → js ≡ fresh_callers 0 n → All (λ (c : ℕ × List (Receipt R)). (c.0 < n) × (c.1 ≡ [])) js
fresh_at R n js e =
    let zero_more : 0 + n ≡ n = omega arith in
    let each = subst (λ (k : ℕ). Each (λ (c : ℕ × List (Receipt R)). (c.0 < k) × (c.1 ≡ [])) (fresh_callers 0 n)) zero_more (fresh_none R 0 n) in
    rw e (each_at (λ (c : ℕ × List (Receipt R)). (c.0 < n) × (c.1 ≡ [])) (fresh_callers 0 n) each)
