-- Whether one of the tasks that a context shows has an id.
use Rattle.std.proofs.Common.{◌≡◌, ℕ, zero, suc, ◌+◌, ◌<◌, ◌≤◌, List, Bool, true, false, min, map, sym, ap, subst, ◌∙◌, refl, arith, eq-eqb, ne_eqb}
use Rattle.std.specs.Prelude.{◌||◌, ◌==◌}
use Rattle.std.specs.List.{list_any, range_with_len}
use Rattle.std.proofs.lemmas.List.FromFn.{get_or-map-range_with_len, length-map-range_with_len}
use Rattle.std.proofs.lemmas.List.Folds.{list_any_at}
use Rattle.bq_policy_run.specs.Permitting.{context_number, shown_id, shows_task}

-- where a test fails at each place from one on, none of the places passes it
none_of : (p : ℕ → Bool) (f : ℕ → ℕ) (a n : ℕ) → ((k : ℕ) → k < n → p (f (a + k)) ≡ false) → list_any p (map f (range_with_len a n)) ≡ false
none_of p f a zero h = refl
none_of p f a (suc n) h =
    let here : p (f a) ≡ false = ap (λ i. p (f i)) (let e : a ≡ a + 0 = omega arith in e) ∙ h 0 (omega arith) in
    let rest =
    none_of p f (a + 1) n (λ k l. ap (λ i. p (f i)) (let e : a + 1 + k ≡ a + suc k = omega arith in e) ∙ h (suc k) (omega arith)) in
    λ i. here i || rest i

-- where a test holds at one of some places, one of the places passes it
one_of : (p : ℕ → Bool) (f : ℕ → ℕ) (n k : ℕ) → k < n → p (f k) ≡ true → list_any p (map f (range_with_len 0 n)) ≡ true
one_of p f n k l h =
    let there = get_or-map-range_with_len f 0 n k k 0 l (let e : 0 + k ≡ k = omega arith in e) in
    list_any_at p (map f (range_with_len 0 n)) k 0 (let long = length-map-range_with_len f 0 n in omega arith) (ap p there ∙ h)

-- the id at one of the places that are shown is this
pub shows_one : (context : List ℕ) (r0 count shown place id : ℕ)
    → count ≡ context_number context 20 → shown ≡ min count 8 → place < shown → id ≡ shown_id context place → id ≡ r0
    → true ≡ shows_task context r0
shows_one context r0 count shown place id counted fewest below here is =
    let n = min (context_number context 20) 8 in
    let l : place < n = subst (λ m. place < min m 8) counted (subst (λ m. place < m) fewest below) in
    sym (one_of (λ x. x == r0) (shown_id context) n place l (eq-eqb (shown_id context place) r0 (sym here ∙ is)))

-- the ids at the places before this are others, and it is the last
pub shows_none : (context : List ℕ) (r0 count shown place : ℕ)
    → count ≡ context_number context 20 → shown ≡ min count 8 → shown ≤ place → ((k : ℕ) → k < place → shown_id context k ≡ r0 → ⊥)
    → false ≡ shows_task context r0
shows_none context r0 count shown place counted fewest last others =
    let n = min (context_number context 20) 8 in
    let whole : n ≤ place = subst (λ m. min m 8 ≤ place) counted (subst (λ m. m ≤ place) fewest last) in
    sym (none_of (λ x. x == r0) (shown_id context) 0 n (λ k l.
    let same : 0 + k ≡ k = omega arith in
    let before : k < place = omega (arith, l, whole) in
    ap (λ j. shown_id context j == r0) same ∙ ne_eqb (shown_id context k) r0 (others k before)))
