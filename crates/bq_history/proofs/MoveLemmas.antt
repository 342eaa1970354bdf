-- Cuts, joins and changes keep the whole.
use Rattle.std.proofs.Common.{◌≡◌, ◌≢◌, ℕ, zero, suc, ◌+◌, ◌≤◌, List, [], ◌∷◌, ◌++◌, set, Bool, true, cond, refl, sym, ap, ◌∙◌, subst, ⊎_elim, arith}
use mathlib.Core.Option.{some, some-ne-none, some-injective}
use lib.ListN.{get_elem?}
use Rattle.atomic_table.proofs.Lists.{at_set, at_snoc, set_else}
use Rattle.bq_history.specs.Whole.{total, count, Each, first_item, others_of, Keeps, Has, MayExchange}

module _ {A : Type 0} (f : A → ℕ) where
  -- an item in place of another changes the total by their difference
  pub total_set : (views : List A) (id : ℕ) (v w : A) → get_elem? views id ≡ some v → total f (set views id w) + f v ≡ total f views + f w
  total_set [] id v w e = absurd (some-ne-none v (sym e))
  total_set (x ∷ xs) zero v w e = let same : f x ≡ f v = ap f (some-injective x v e) in omega arith
  total_set (x ∷ xs) (suc id) v w e = let h = total_set xs id v w e in omega arith

  -- one more item at the end
  pub total_snoc : (views : List A) (w : A) → total f (views ++ w ∷ []) ≡ total f views + f w
  total_snoc [] w = omega arith
  total_snoc (x ∷ xs) w = let h = total_snoc xs w in omega arith

  -- no item is more than the total
  pub total_at : (views : List A) (id : ℕ) (v : A) → get_elem? views id ≡ some v → f v ≤ total f views
  total_at [] id v e = absurd (some-ne-none v (sym e))
  total_at (x ∷ xs) zero v e = let same : f x ≡ f v = ap f (some-injective x v e) in omega arith
  total_at (x ∷ xs) (suc id) v e = let h = total_at xs id v e in omega arith

  -- two items at different places are together no more than the total
  pub total_two : (views : List A) (none : A) (i j : ℕ) (v x : A)
      → f none ≡ 0 → j ≢ i → get_elem? views i ≡ some v → get_elem? views j ≡ some x
      → f v + f x ≤ total f views
  total_two views none i j v x z apart at other =
      let a = total_set views i v none at in
      let b = total_at (set views i none) j x (set_else views i j none apart ∙ other) in
      omega arith

module _ {E : Type 0} where
  -- a count over two lists joined
  pub count-append : (p : E → Bool) (v w : List E) → count p (v ++ w) ≡ count p v + count p w
  count-append p [] w = omega arith
  count-append p (x ∷ xs) w = let h = count-append p xs w in omega arith

  -- the first item and the others are all items
  pub count_cut : (p : E → Bool) (v : List E) → count p (others_of v) + count p (first_item v) ≡ count p v
  count_cut p [] = refl
  count_cut p (x ∷ xs) = omega arith

  -- what each has, the first has
  pub each_first : (P : E → Type 0) (v : List E) → Each P v → Each P (first_item v)
  each_first P [] h = tt
  each_first P (x ∷ xs) h = (h.0, tt)

  -- what each has, the others have
  pub each_others : (P : E → Type 0) (v : List E) → Each P v → Each P (others_of v)
  each_others P [] h = tt
  each_others P (x ∷ xs) h = h.1

  -- what each of two lists has, each of the joined list has
  pub each-append : (P : E → Type 0) (v w : List E) → Each P v → Each P w → Each P (v ++ w)
  each-append P [] w h k = k
  each-append P (x ∷ xs) w h k = (h.0, each-append P xs w h.1 k)

module _ {E T : Type 0} (same : E → E → Bool) (good : T → Type 0) (fits : T → E → Type 0) where
  each_moves : ((e : E) → same e e ≡ true) → (t u : T) (n : E → ℕ) (xs : List E) → ((e : E) → count (same e) xs ≤ n e)
      → ((e : E) → 1 ≤ n e → fits t e → fits u e) → Each (fits t) xs
      → Each (fits u) xs
  each_moves is t u n [] le moves h = tt
  each_moves is t u n (x ∷ xs) le moves h =
      let one : cond {A = ℕ} (same x x) 1 0 ≡ 1 = ap (λ (b : Bool). cond {A = ℕ} b 1 0) (is x) in
      let le_x : cond {A = ℕ} (same x x) 1 0 + count (same x) xs ≤ n x = le x in (
        moves x (omega arith) h.0,
        each_moves is t u n xs (λ e. let l = le e in omega arith) moves h.1,
      )

  -- the first item goes to a new holder
  pub cuts : (views : List (List E)) (id : ℕ) (v : List E) → Keeps same good fits views → get_elem? views id ≡ some v
      → Keeps same good fits (set views id (others_of v) ++ first_item v ∷ [])
  cuts views id v k at = (
    k.0,
    k.1,
    (λ e. let a = total_set (count (same e)) views id v (others_of v) at in
        let b = total_snoc (count (same e)) (set views id (others_of v)) (first_item v) in
        let c = count_cut (same e) v in
        let d = k.2 e in
        omega arith),
    λ by w e. ⊎_elim
        (λ (was : get_elem? (set views id (others_of v)) by ≡ some w). ⊎_elim
        (λ (x : (by ≡ id) × (others_of v ≡ w)). subst (Each (fits k.0)) x.1 (each_others (fits k.0) v (k.3 id v at)))
        (λ (x : (by ≢ id) × (get_elem? views by ≡ some w)). k.3 by w x.1)
        (at_set views id by (others_of v) w was))
        (λ (new : first_item v ≡ w). subst (Each (fits k.0)) new (each_first (fits k.0) v (k.3 id v at)))
        (at_snoc (set views id (others_of v)) (first_item v) w by e),
  )

  -- one holder takes all that another has
  pub joins : (views : List (List E)) (id other : ℕ) (v w : List E)
      → Keeps same good fits views → get_elem? views id ≡ some v → ¬ (other ≡ id)
      → get_elem? (set views id (v ++ w)) other ≡ some w
      → Keeps same good fits (set (set views id (v ++ w)) other [])
  joins views id other v w k at apart there =
      let theirs : get_elem? views other ≡ some w = sym (set_else views id other (v ++ w) apart) ∙ there in (
        k.0,
        k.1,
        (λ e. let a = total_set (count (same e)) views id v (v ++ w) at in
            let b = total_set (count (same e)) (set views id (v ++ w)) other w [] there in
            let c = count-append (same e) v w in
            let d = k.2 e in
            omega arith),
        λ by x e. ⊎_elim
            (λ (y : (by ≡ other) × ([] ≡ x)). subst (Each (fits k.0)) y.1 tt)
            (λ (y : (by ≢ other) × (get_elem? (set views id (v ++ w)) by ≡ some x)). ⊎_elim
            (λ (z : (by ≡ id) × (v ++ w ≡ x)). subst (Each (fits k.0)) z.1 (each-append (fits k.0) v w (k.3 id v at) (k.3 other w theirs)))
            (λ (z : (by ≢ id) × (get_elem? views by ≡ some x)). k.3 by x z.1)
            (at_set views id by (v ++ w) x y.1))
            (at_set (set views id (v ++ w)) other by [] x e),
      )

  -- all items go to a new holder
  pub takes : (views : List (List E)) (id : ℕ) (v : List E) → Keeps same good fits views → get_elem? views id ≡ some v
      → Keeps same good fits (set views id [] ++ v ∷ [])
  takes views id v k at = (
    k.0,
    k.1,
    (λ e. let a = total_set (count (same e)) views id v [] at in
        let b = total_snoc (count (same e)) (set views id []) v in
        let d = k.2 e in
        omega arith),
    λ by w e. ⊎_elim
        (λ (was : get_elem? (set views id []) by ≡ some w). ⊎_elim
        (λ (x : (by ≡ id) × ([] ≡ w)). subst (Each (fits k.0)) x.1 tt)
        (λ (x : (by ≢ id) × (get_elem? views by ≡ some w)). k.3 by w x.1)
        (at_set views id by [] w was))
        (λ (new : v ≡ w). subst (Each (fits k.0)) new (k.3 id v at))
        (at_snoc (set views id []) v w by e),
  )

  -- one holder changes its parts, together with the whole
  pub changes : (views : List (List E)) (id : ℕ) (v w : List E)
      → Keeps same good fits views → get_elem? views id ≡ some v → MayExchange same good fits v w
      → Keeps same good fits (set views id w)
  changes views id v w k at c =
      let s = c.exchanges k.0 k.1 (k.3 id v at) in (
        s.0,
        s.1.is_good,
        (λ e. let a = total_set (count (same e)) views id v w at in let b = c.as_many e in let d = k.2 e in omega arith),
        λ by x e.
            ⊎_elim (λ (y : (by ≡ id) × (w ≡ x)). subst (Each (fits s.0)) y.1 s.1.has)
            (λ (y : (by ≢ id) × (get_elem? views by ≡ some x)).
            each_moves c.itself k.0 s.0 (λ i. count (same i) x) x (λ i. omega arith)
            (λ i some_there.
            s.1.elsewhere i (let t = total_two (count (same i)) views [] id by v x refl y.0 at y.1 in let d = k.2 i in omega arith))
            (k.3 by x y.1)) (at_set views id by w x e),
      )

  -- what one holder has is there in a good whole, nothing twice
  pub ends : (views : List (List E)) (id : ℕ) (v : List E) → Keeps same good fits views → get_elem? views id ≡ some v → Has same good fits v
  ends views id v k at = (k.0, k.1, (λ e. let a = total_at (count (same e)) views id v at in let d = k.2 e in omega arith), k.3 id v at)

  -- a holder that stays as it is
  pub stays : (views : List (List E)) (id : ℕ) (v : List E) → Keeps same good fits views → get_elem? views id ≡ some v
      → Keeps same good fits (set views id v)
  stays views id v k at = (
    k.0,
    k.1,
    (λ e. let a = total_set (count (same e)) views id v v at in let d = k.2 e in omega arith),
    λ by x e. ⊎_elim
        (λ (y : (by ≡ id) × (v ≡ x)). subst (Each (fits k.0)) y.1 (k.3 id v at))
        (λ (y : (by ≢ id) × (get_elem? views by ≡ some x)). k.3 by x y.1)
        (at_set views id by v x e),
  )
