-- Callers with a list for each number have the receipts of the whole history.
use Rattle.std.proofs.Common.{◌≡◌, ◌≢◌, ℕ, zero, suc, ◌+◌, ◌<◌, ◌≤◌, Bool, true, false, cond, eqb, List, [], ◌∷◌, length, refl, sym, ap, ◌∙◌, ◌⊎◌, inl, inr, arith}
use mathlib.Core.Option.{some, some-ne-none, some-injective}
use lib.ListN.{get_elem?}
use Rattle.std.proofs.lemmas.Bool.Decides.{eqb_tells}
use Rattle.bq_history.specs.Whole.{count, total, Each}
use Rattle.bq_history.specs.declared.shared_state.Receipt.{Receipt}
use Rattle.bq_history.specs.History.{PlacesRise, IsRecorded, SharesOutAmong, EachOnce, times_at, AreReceiptsOf}
use Rattle.bq_history.proofs.RecordingLemmas.{each_map}
use Rattle.bq_history.proofs.SharingLemmas.{shared_total, receipts_from}

module _ {R : Type 0} (measure : List (Receipt R) → ℕ) where
  -- what the list of number m tells, where the first has number s
  abbrev pick : ℕ → ℕ → List (List (Receipt R)) → ℕ
  pick m s [] = 0
  pick m s (l ∷ ls) = cond {A = ℕ} (eqb m s) (measure l) 0 + pick m (s + 1) ls

  none_at : (m s t k : ℕ) (b : Bool) → ((b ≡ true) × (m ≡ s)) ⊎ ((b ≡ false) × (m ≢ s)) → m ≢ s → k ≡ 0 → cond {A = ℕ} b t 0 + k ≡ 0
  none_at m s t k b (inl (e, same)) other none = absurd (other same)
  none_at m s t k b (inr (e, apart)) other none = rw e (omega (arith, none))

  pick_none : (m s : ℕ) (ls : List (List (Receipt R))) → m < s → pick m s ls ≡ 0
  pick_none m s [] lt = refl
  pick_none m s (l ∷ ls) lt =
      none_at m s (measure l) (pick m (s + 1) ls) _ (eqb_tells m s) (λ same. omega arith)
      (pick_none m (s + 1) ls (omega arith))

  here_at : (m s t k : ℕ) (b : Bool) → ((b ≡ true) × (m ≡ s)) ⊎ ((b ≡ false) × (m ≢ s)) → m ≡ s → k ≡ 0 → cond {A = ℕ} b t 0 + k ≡ t
  here_at m s t k b (inl (e, same)) is none = rw e (omega (arith, none))
  here_at m s t k b (inr (e, apart)) is none = absurd (apart is)

  later_at : (m s t k : ℕ) (b : Bool) → ((b ≡ true) × (m ≡ s)) ⊎ ((b ≡ false) × (m ≢ s)) → m ≢ s → cond {A = ℕ} b t 0 + k ≡ k
  later_at m s t k b (inl (e, same)) other = absurd (other same)
  later_at m s t k b (inr (e, apart)) other = rw e (omega arith)

  pick_one : (m s k : ℕ) (ls : List (List (Receipt R))) (l : List (Receipt R))
      → m ≡ s + k → get_elem? ls k ≡ some l → pick m s ls ≡ measure l
  pick_one m s k [] l is at = absurd (some-ne-none l (sym at))
  pick_one m s zero (x ∷ ls) l is at =
      here_at m s (measure x) (pick m (s + 1) ls) _ (eqb_tells m s) (omega arith) (pick_none m (s + 1) ls (omega arith))
      ∙ ap measure (some-injective x l at)
  pick_one m s (suc k) (x ∷ ls) l is at =
      later_at m s (measure x) (pick m (s + 1) ls) _ (eqb_tells m s) (λ same. omega arith)
      ∙ pick_one m (s + 1) k ls l (omega arith) at

  abbrev Listed : Type 0
  Listed = ℕ × List (Receipt R)

  callers_pick : (lists : List (List (Receipt R))) (callers : List Listed)
      → Each (λ (c : Listed). get_elem? lists c.0 ≡ some c.1) callers
      → total (λ (c : Listed). measure c.1) callers ≡ total (λ (c : Listed). pick c.0 0 lists) callers
  callers_pick lists [] each = refl
  callers_pick lists (c ∷ cs) (at, rest) =
      let one = pick_one c.0 0 c.0 lists c.1 (omega arith) at in
      let more = callers_pick lists cs rest in
      omega (arith, one, more)

  -- t for each caller of that number
  abbrev once : ℕ → ℕ → List Listed → ℕ
  once s t callers = total (λ (c : Listed). cond {A = ℕ} (eqb c.0 s) t 0) callers

  abbrev number : ℕ → List Listed → ℕ
  number s callers = count (λ (c : Listed). eqb c.0 s) callers

  once_none : (s t : ℕ) (callers : List Listed) → number s callers ≡ 0 → once s t callers ≡ 0
  once_none s t [] e = refl
  once_none s t (c ∷ cs) e = step _ e (once_none s t cs)
    where
      step : (b : Bool) → cond {A = ℕ} b 1 0 + number s cs ≡ 0 → (number s cs ≡ 0 → once s t cs ≡ 0) → cond {A = ℕ} b t 0 + once s t cs ≡ 0
      step true e h = absurd (omega arith)
      step false e h = let none = h (omega arith) in omega (arith, none)

  once_one : (s t : ℕ) (callers : List Listed) → number s callers ≡ 1 → once s t callers ≡ t
  once_one s t [] e = absurd (omega arith)
  once_one s t (c ∷ cs) e = step _ e (once_one s t cs) (once_none s t cs)
    where
      step : (b : Bool) → cond {A = ℕ} b 1 0 + number s cs ≡ 1 → (number s cs ≡ 1 → once s t cs ≡ t)
          → (number s cs ≡ 0 → once s t cs ≡ 0)
          → cond {A = ℕ} b t 0 + once s t cs ≡ t
      step true e h k = let none = k (omega arith) in omega (arith, none)
      step false e h k = let all = h (omega arith) in omega (arith, all)

  picks_none : (s : ℕ) (callers : List Listed) → total (λ (c : Listed). pick c.0 s []) callers ≡ 0
  picks_none s [] = refl
  picks_none s (c ∷ cs) = let h = picks_none s cs in omega (arith, h)

  picks_more : (s : ℕ) (l : List (Receipt R)) (ls : List (List (Receipt R))) (callers : List Listed)
      → total (λ (c : Listed). pick c.0 s (l ∷ ls)) callers
      ≡ once s (measure l) callers + total (λ (c : Listed). pick c.0 (s + 1) ls) callers
  picks_more s l ls [] = omega arith
  picks_more s l ls (c ∷ cs) = let h = picks_more s l ls cs in omega (arith, h)

  picks_all : (s : ℕ) (ls : List (List (Receipt R))) (callers : List Listed)
      → ((m : ℕ) → s ≤ m → m < s + length ls → number m callers ≡ 1)
      → total (λ (c : Listed). pick c.0 s ls) callers ≡ total measure ls
  picks_all s [] callers each = picks_none s callers
  picks_all s (l ∷ ls) callers each =
      let more = picks_more s l ls callers in
      let one = once_one s (measure l) callers (each s (omega arith) (omega arith)) in
      let rest = picks_all (s + 1) ls callers (λ m low high. each m (omega arith) (omega arith)) in
      omega (arith, more, one, rest)

  -- the callers' lists tell as much as the lists of all numbers
  pub callers_lists : (log : List R) (n : ℕ) (callers : List Listed) (shares : SharesOutAmong log n callers)
      → EachOnce n callers → total (λ (c : Listed). measure c.1) callers ≡ total measure shares.lists
  callers_lists log n callers shares all =
      let lists = shares.lists in
      let long = shares.many in
      callers_pick lists callers shares.theirs ∙ picks_all 0 lists callers (λ m low high. all m (omega (arith, long)))

module _ {A : Type 0} where
  total_same : (f g : A → ℕ) (xs : List A) → ((x : A) → f x ≡ g x) → total f xs ≡ total g xs
  total_same f g [] e = refl
  total_same f g (x ∷ xs) e = let h = total_same f g xs e in let s = e x in omega (arith, h, s)

  total_one : (xs : List A) → total (λ (x : A). 1) xs ≡ length xs
  total_one [] = refl
  total_one (x ∷ xs) = let h = total_one xs in omega (arith, h)

  total_count : (p : A → Bool) (xs : List A) → total (λ (x : A). cond {A = ℕ} (p x) 1 0) xs ≡ count p xs
  total_count p [] = refl
  total_count p (x ∷ xs) = let h = total_count p xs in omega (arith, h)

place_at : (p n m : ℕ) (b : Bool) → ((b ≡ true) × (n ≡ p)) ⊎ ((b ≡ false) × (n ≢ p)) → (n ≡ p → m ≡ 0) → (n ≢ p → m ≡ 1)
    → cond {A = ℕ} b 1 0 + m ≡ 1
place_at p n m b (inl (e, same)) here later = let none = here same in rw e (omega (arith, none))
place_at p n m b (inr (e, apart)) here later = let one = later apart in rw e (omega (arith, one))

place_none : (p n : ℕ) (b : Bool) → ((b ≡ true) × (n ≡ p)) ⊎ ((b ≡ false) × (n ≢ p)) → n ≢ p → cond {A = ℕ} b 1 0 ≡ 0
place_none p n b (inl (e, same)) apart = absurd (apart same)
place_none p n b (inr (e, other)) apart = rw e refl

module _ {R : Type 0} where
  -- the callers tell as much as the history
  pub callers_total : (f : Receipt R → ℕ) (log : List R) (n : ℕ) (callers : List (ℕ × List (Receipt R)))
      → SharesOutAmong log n callers → EachOnce n callers
      → total (λ (c : ℕ × List (Receipt R)). total f c.1) callers ≡ total f (receipts_from 0 log)
  callers_total f log n callers shares all =
      callers_lists (λ l. total f l) log n callers shares all ∙ shared_total f log shares.lists shares.share_out

  -- there are as many callers as numbers
  pub many_callers : (log : List R) (n : ℕ) (callers : List (ℕ × List (Receipt R)))
      → SharesOutAmong log n callers → EachOnce n callers → length callers ≡ n
  many_callers log n callers shares all =
      sym (total_one callers) ∙ (callers_lists (λ l. 1) log n callers shares all ∙ (total_one shares.lists ∙ shares.many))

  receipts_many : (n : ℕ) (log : List R) → length (receipts_from n log) ≡ length log
  receipts_many n [] = refl
  receipts_many n (r ∷ rs) = let h = receipts_many (n + 1) rs in omega (arith, h)

  places_none : (p n : ℕ) (log : List R) → p < n → times_at p (receipts_from n log) ≡ 0
  places_none p n [] low = refl
  places_none p n (r ∷ rs) low =
      let first : cond {A = ℕ} (eqb n p) 1 0 ≡ 0 = place_none p n _ (eqb_tells n p) (λ (e : n ≡ p). omega arith) in
      let rest = places_none p (n + 1) rs (omega arith) in
      omega (arith, first, rest)

  places_once : (p n : ℕ) (log : List R) → n ≤ p → p < n + length log → times_at p (receipts_from n log) ≡ 1
  places_once p n [] low high = absurd (omega arith)
  places_once p n (r ∷ rs) low high =
      place_at p n (times_at p (receipts_from (n + 1) rs)) _ (eqb_tells n p)
      (λ (e : n ≡ p). places_none p (n + 1) rs (omega arith))
      (λ (e : n ≢ p). places_once p (n + 1) rs (omega (arith, e)) (omega arith))

  entries_total : (f : R → ℕ) (n : ℕ) (log : List R) → total (λ (x : Receipt R). f x.entry) (receipts_from n log) ≡ total f log
  entries_total f n [] = refl
  entries_total f n (r ∷ rs) = let h = entries_total f (n + 1) rs in omega (arith, h)

  -- callers of all numbers, each once, have the receipts of the history
  pub are_receipts : (log : List R) (n : ℕ) (callers : List (ℕ × List (Receipt R)))
      → SharesOutAmong log n callers → EachOnce n callers → AreReceiptsOf log callers
  are_receipts log n callers shares all = record {
    stand =
        each_map (λ (c : ℕ × List (Receipt R)). get_elem? shares.lists c.0 ≡ some c.1)
        (λ (c : ℕ × List (Receipt R)). Each (IsRecorded log) c.1 × PlacesRise 0 c.1) callers
        (λ c at. let share = shares.share_out.shares c.0 c.1 at in (share.stand, share.rise)) shares.theirs;
    once = λ p lt.
        sym (total_same (λ (c : ℕ × List (Receipt R)). total (λ (x : Receipt R). cond {A = ℕ} (eqb x.place p) 1 0) c.1)
        (λ (c : ℕ × List (Receipt R)). times_at p c.1) callers (λ c. total_count (λ (x : Receipt R). eqb x.place p) c.1))
        ∙ (callers_total (λ (x : Receipt R). cond {A = ℕ} (eqb x.place p) 1 0) log n callers shares all
        ∙ (total_count (λ (x : Receipt R). eqb x.place p) (receipts_from 0 log) ∙ places_once p 0 log (omega arith) (omega (arith, lt))));
    many =
        sym (total_same (λ (c : ℕ × List (Receipt R)). total (λ (x : Receipt R). 1) c.1)
        (λ (c : ℕ × List (Receipt R)). length c.1) callers (λ c. total_one c.1))
        ∙ (callers_total (λ (x : Receipt R). 1) log n callers shares all ∙ (total_one (receipts_from 0 log) ∙ receipts_many 0 log));
    counts = λ f. callers_total (λ (x : Receipt R). f x.entry) log n callers shares all ∙ entries_total f 0 log;
  }
