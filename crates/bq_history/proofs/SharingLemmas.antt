-- Lists of receipts that share a history out tell what it tells.
use Rattle.std.proofs.Common.{◌≡◌, ◌≢◌, ℕ, zero, suc, ◌+◌, ◌<◌, ◌≤◌, Bool, true, false, cond, eqb, List, [], ◌∷◌, Some, length, refl, sym, ap, ◌∙◌, subst, ◌⊎◌, inl, inr, arith, zero-le}
use Rattle.std.specs.Prelude.{slice_get}
use mathlib.Core.Option.{some, some-injective}
use lib.ListN.{get_elem?}
use Rattle.std.proofs.lemmas.Bool.Decides.{eqb_tells}
use Rattle.std.proofs.lemmas.Option.{none-some, same_Some}
use Rattle.bq_history.specs.Whole.{total, Each}
use Rattle.bq_history.specs.declared.shared_state.Receipt.{Receipt}
use Rattle.bq_history.specs.History.{PlacesRise, HasReceiptFor, IsRecorded, SharesOut}
use Rattle.bq_history.proofs.RecordingLemmas.{at_below}

abbrev receipt : {R : Type 0} → ℕ → R → Receipt R
receipt n r = record { place = n; entry = r }

-- the receipts of all records, from place n on
abbrev pub receipts_from : {R : Type 0} → ℕ → List R → List (Receipt R)
receipts_from n [] = []
receipts_from n (r ∷ rs) = receipt n r ∷ receipts_from (n + 1) rs

module _ {R : Type 0} (f : Receipt R → ℕ) (owner : ℕ → ℕ) where
  -- what the receipts tell
  abbrev weight_of : List (Receipt R) → ℕ
  weight_of l = total f l

  -- what the records of one owner tell, from place n on
  abbrev weigh : ℕ → ℕ → List R → ℕ
  weigh s n [] = 0
  weigh s n (r ∷ rs) = cond {A = ℕ} (eqb (owner n) s) (f (receipt n r)) 0 + weigh s (n + 1) rs

  abbrev StandsFrom : ℕ → List R → Receipt R → Type 0
  StandsFrom n rest x = (k : ℕ) × (x.place ≡ n + k) × (slice_get rest k ≡ Some x.entry)

  rising_has : (m p : ℕ) (l : List (Receipt R)) → PlacesRise m l → HasReceiptFor p l → m ≤ p
  rising_has m p [] rising has = absurd has
  rising_has m p (x ∷ xs) (le, rest) (inl e) = omega arith
  rising_has m p (x ∷ xs) (le, rest) (inr has) = let h = rising_has (x.place + 1) p xs rest has in omega arith

  shift_at : (n : ℕ) (r : R) (rs : List R) (x : Receipt R) → n + 1 ≤ x.place → StandsFrom n (r ∷ rs) x → StandsFrom (n + 1) rs x
  shift_at n r rs x le (zero, e, at) = absurd (omega arith)
  shift_at n r rs x le (suc k, e, at) = (k, omega arith, at)

  shift : (n m : ℕ) (r : R) (rs : List R) (l : List (Receipt R))
      → n + 1 ≤ m → PlacesRise m l → Each (StandsFrom n (r ∷ rs)) l → Each (StandsFrom (n + 1) rs) l
  shift n m r rs [] le rising each = tt
  shift n m r rs (x ∷ xs) le (low, rest) (first, others) =
      (shift_at n r rs x (omega arith) first, shift n (x.place + 1) r rs xs (omega arith) rest others)

  first_entry : (n : ℕ) (r : R) (rs : List R) (x : Receipt R) → x.place ≡ n → StandsFrom n (r ∷ rs) x → r ≡ x.entry
  first_entry n r rs x e (zero, is, at) = same_Some r x.entry at
  first_entry n r rs x e (suc k, is, at) = absurd (omega arith)

  at_test : (s n : ℕ) (r : R) (rs : List R) (l : List (Receipt R)) (b : Bool)
      → ((b ≡ true) × (owner n ≡ s)) ⊎ ((b ≡ false) × (owner n ≢ s)) → PlacesRise n l
      → Each (StandsFrom n (r ∷ rs)) l → Each (λ (x : Receipt R). owner x.place ≡ s) l
      → ((p : ℕ) → n ≤ p → p < n + length (r ∷ rs) → owner p ≡ s → HasReceiptFor p l)
      → ((m : List (Receipt R)) → PlacesRise (n + 1) m →
      Each (StandsFrom (n + 1) rs) m → Each (λ (x : Receipt R). owner x.place ≡ s) m →
      ((p : ℕ) → n + 1 ≤ p → p < n + 1 + length rs → owner p ≡ s → HasReceiptFor p m) → weight_of m ≡ weigh s (n + 1) rs)
      → weight_of l ≡ cond {A = ℕ} b (f (receipt n r)) 0 + weigh s (n + 1) rs
  at_test s n r rs [] b (inl (e, same)) rising stands owned has ih = absurd (has n (omega arith) (omega arith) same)
  at_test s n r rs (x ∷ xs) b (inl (e, same)) rising stands owned has ih =
      let place : x.place ≡ n = here (has n (omega arith) (omega arith) same) in
      let value : f (receipt n r) ≡ f x =
      ap (λ (k : ℕ). f (receipt k r)) (sym place)
      ∙ ap (λ (e : R). f (receipt x.place e)) (first_entry n r rs x place stands.0) in
      let later : PlacesRise (n + 1) xs = rw place at rising.1 in
      let rest =
      ih xs later (shift n (n + 1) r rs xs (omega arith) later stands.1) owned.1
      (λ p low high is. after p low (has p (omega arith) (omega arith) is) place) in
      rw e (omega (arith, value, rest))
    where
      here : HasReceiptFor n (x ∷ xs) → x.place ≡ n
      here (inl p) = p
      here (inr p) = absurd (let h = rising_has (x.place + 1) n xs rising.1 p in let low = rising.0 in omega arith)

      after : (p : ℕ) → n + 1 ≤ p → HasReceiptFor p (x ∷ xs) → x.place ≡ n → HasReceiptFor p xs
      after p low (inl q) place = absurd (omega arith)
      after p low (inr q) place = q
  at_test s n r rs l b (inr (e, other)) rising stands owned has ih =
      let later = past l rising owned in
      let rest =
      ih l later (shift n (n + 1) r rs l (omega arith) later stands) owned
      (λ p low high is. has p (omega arith) (omega arith) is) in
      rw e (omega (arith, rest))
    where
      past : (l : List (Receipt R)) → PlacesRise n l → Each (λ (x : Receipt R). owner x.place ≡ s) l → PlacesRise (n + 1) l
      past [] rising owned = tt
      past (x ∷ xs) rising owned =
          let apart : x.place ≢ n = λ same. other (rw same at owned.0) in
          let low = rising.0 in
          (omega (arith, apart), rising.1)

  list_weighs : (s n : ℕ) (rest : List R) (l : List (Receipt R))
      → PlacesRise n l → Each (StandsFrom n rest) l → Each (λ (x : Receipt R). owner x.place ≡ s) l
      → ((p : ℕ) → n ≤ p → p < n + length rest → owner p ≡ s → HasReceiptFor p l)
      → weight_of l ≡ weigh s n rest
  list_weighs s n [] [] rising stands owned has = refl
  list_weighs s n [] (x ∷ xs) rising stands owned has = absurd (none-some x.entry (stands.0.2))
  list_weighs s n (r ∷ rs) l rising stands owned has =
      at_test s n r rs l _ (eqb_tells (owner n) s) rising stands owned has (list_weighs s (n + 1) rs)

  -- what the records of the owners s, s + 1 and so on tell
  abbrev weighs : ℕ → ℕ → ℕ → List R → ℕ
  weighs s zero n rest = 0
  weighs s (suc c) n rest = weigh s n rest + weighs (s + 1) c n rest

  lists_weigh : (log : List R) (s : ℕ) (lists : List (List (Receipt R)))
      → ((j : ℕ) (l : List (Receipt R)) → get_elem? lists j ≡ some l → weight_of l ≡ weigh (s + j) 0 log)
      → total weight_of lists ≡ weighs s (length lists) 0 log
  lists_weigh log s [] each = refl
  lists_weigh log s (l ∷ ls) each =
      let first : weight_of l ≡ weigh s 0 log =
      let zero_more : s + 0 ≡ s = omega arith in subst (λ (k : ℕ). weight_of l ≡ weigh k 0 log) zero_more (each 0 l refl) in
      let rest =
      lists_weigh log (s + 1) ls (λ j m at.
      let more : s + suc j ≡ s + 1 + j = omega arith in
      subst (λ (k : ℕ). weight_of m ≡ weigh k 0 log) more (each (suc j) m at)) in
      omega (arith, first, rest)

  -- one record among the owners s, s + 1 and so on
  abbrev one : ℕ → ℕ → ℕ → R → ℕ
  one s zero n r = 0
  one s (suc c) n r = cond {A = ℕ} (eqb (owner n) s) (f (receipt n r)) 0 + one (s + 1) c n r

  none_at : (s n m : ℕ) (r : R) (b : Bool) → ((b ≡ true) × (owner n ≡ s)) ⊎ ((b ≡ false) × (owner n ≢ s))
      → owner n < s → m ≡ 0
      → cond {A = ℕ} b (f (receipt n r)) 0 + m ≡ 0
  none_at s n m r b (inl (e, same)) lt none = absurd (omega arith)
  none_at s n m r b (inr (e, other)) lt none = rw e (omega (arith, none))

  one_none : (s c n : ℕ) (r : R) → owner n < s → one s c n r ≡ 0
  one_none s zero n r lt = refl
  one_none s (suc c) n r lt = none_at s n (one (s + 1) c n r) r _ (eqb_tells (owner n) s) lt (one_none (s + 1) c n r (omega arith))

  some_at : (s n m : ℕ) (r : R) (b : Bool) → ((b ≡ true) × (owner n ≡ s)) ⊎ ((b ≡ false) × (owner n ≢ s)) → s ≤ owner n
      → (owner n < s + 1 → m ≡ 0) → (s + 1 ≤ owner n → m ≡ f (receipt n r))
      → cond {A = ℕ} b (f (receipt n r)) 0 + m ≡ f (receipt n r)
  some_at s n m r b (inl (e, same)) le here later = let none = here (omega arith) in rw e (omega (arith, none))
  some_at s n m r b (inr (e, other)) le here later = let all = later (omega (arith, other)) in rw e (omega (arith, all))

  one_some : (s c n : ℕ) (r : R) → s ≤ owner n → owner n < s + c → one s c n r ≡ f (receipt n r)
  one_some s zero n r le lt = absurd (omega arith)
  one_some s (suc c) n r le lt =
      some_at s n (one (s + 1) c n r) r _ (eqb_tells (owner n) s) le (one_none (s + 1) c n r)
      (λ more. one_some (s + 1) c n r more (omega arith))

  weighs_none : (s c n : ℕ) → weighs s c n [] ≡ 0
  weighs_none s zero n = refl
  weighs_none s (suc c) n = let h = weighs_none (s + 1) c n in omega (arith, h)

  weighs_more : (s c n : ℕ) (r : R) (rs : List R) → weighs s c n (r ∷ rs) ≡ one s c n r + weighs s c (n + 1) rs
  weighs_more s zero n r rs = omega arith
  weighs_more s (suc c) n r rs = let h = weighs_more (s + 1) c n r rs in omega (arith, h)

  weighs_all : (c n : ℕ) (rest : List R) → ((p : ℕ) → n ≤ p → p < n + length rest → owner p < c)
      → weighs 0 c n rest ≡ total f (receipts_from n rest)
  weighs_all c n [] few = weighs_none 0 c n
  weighs_all c n (r ∷ rs) few =
      let here = one_some 0 c n r zero-le (let lt = few n (omega arith) (omega arith) in omega arith) in
      let more = weighs_more 0 c n r rs in
      let rest = weighs_all c (n + 1) rs (λ p low high. few p (omega arith) (omega arith)) in
      omega (arith, here, more, rest)

each_from : {R : Type 0} (f : Receipt R → ℕ) (owner : ℕ → ℕ) (log : List R) (l : List (Receipt R))
    → Each (IsRecorded log) l → Each (StandsFrom f owner 0 log) l
each_from f owner log [] each = tt
each_from f owner log (x ∷ xs) (first, others) = ((x.place, omega arith, first), each_from f owner log xs others)

-- the lists tell as much as the history
pub shared_total : {R : Type 0} (f : Receipt R → ℕ) (log : List R) (lists : List (List (Receipt R)))
    → SharesOut log lists → total (λ (l : List (Receipt R)). total f l) lists ≡ total f (receipts_from 0 log)
shared_total f log lists shared =
    let owner = shared.owner in
    let own = shared.shares in
    let each = shared.each_place in
    let by_list =
    lists_weigh f owner log 0 lists (λ j l at.
    let list = own j l at in
    let zero_more : 0 + j ≡ j = omega arith in
    subst (λ (k : ℕ). weight_of f owner l ≡ weigh f owner k 0 log) (sym zero_more)
    (list_weighs f owner j 0 log l list.rise (each_from f owner log l list.stand) list.own (λ p low high is.
    let m = each p (omega arith) in
    owned_there f owner lists j l at p m.list (subst (λ (k : ℕ). get_elem? lists k ≡ some m.list) is m.is_there) m.has))) in
    by_list
    ∙ weighs_all f owner (length lists) 0 log (λ p low high. let m = each p (omega arith) in at_below lists (owner p) m.list m.is_there)
  where
    owned_there : {R : Type 0} (f : Receipt R → ℕ) (owner : ℕ → ℕ) (lists : List (List (Receipt R))) (j : ℕ)
        (l : List (Receipt R))
        → get_elem? lists j ≡ some l → (p : ℕ) (m : List (Receipt R)) → get_elem? lists j ≡ some m → HasReceiptFor p m
        → HasReceiptFor p l
    owned_there f owner lists j l at p m at' has =
        subst (λ (x : List (Receipt _)). HasReceiptFor p x) (some-injective m l (sym at' ∙ at)) has
