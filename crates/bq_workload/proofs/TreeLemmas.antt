-- Trees of least numbers.
use Rattle.std.proofs.Common.{◌≡◌, ◌≢◌, ℕ, zero, suc, ◌+◌, ◌-◌, ◌*◌, ◌/◌, ◌%◌, ◌<◌, ◌≤◌, ◌⊎◌, inl, inr, List, length, get_or, set, replicate, min, sym, ap, ◌∙◌, arith}
use Rattle.std.proofs.lemmas.Grind.{get_or_default_zero, get_or-set_at}
use Rattle.std.proofs.lemmas.List.{get_or-replicate, get_or-set_other}
use Rattle.std.proofs.lemmas.Bool.{cases_lt, cases_eq}
use Rattle.bq_workload.specs.Minima.{IsLess, HasMinima, HasOtherMinima, AreLeavesRanked, HasSpareLeaves, IsFirstDue, AreNever, never_due}
use Rattle.bq_workload.specs.declared.due.TheConstants.{RANKS}
use Rattle.bq_workload.specs.declared.event_queue.TheConstants.{INSTANT, LEAVES, NODES}

-- a number is one of the two below its half
pub below-half : (k : ℕ) → (k ≡ 2 * (k / 2)) ⊎ (k ≡ 2 * (k / 2) + 1)
below-half k = elim (cases_lt (2 * (k / 2)) k) [ inl more ↦ inr (omega arith) | inr same ↦ inl (omega arith) ]

-- a number that is less than or equal to the two below it is so to each of them
pub less-below : (xs : List ℕ) (h k : ℕ) → IsLess xs h → (k ≡ 2 * h) ⊎ (k ≡ 2 * h + 1) → get_or xs h 0 ≤ get_or xs k 0
less-below xs h k less (inl even) =
    let same : get_or xs k 0 ≡ get_or xs (2 * h) 0 = ap (λ i. get_or xs i 0) even in omega (arith, less, same)
less-below xs h k less (inr odd) =
    let same : get_or xs k 0 ≡ get_or xs (2 * h + 1) 0 = ap (λ i. get_or xs i 0) odd in omega (arith, less, same)

-- the root is no more than any number
pub root-bounds : (n k : ℕ) (xs : List ℕ) → HasMinima xs → k ≤ n → 1 ≤ k → k < NODES → get_or xs 1 0 ≤ get_or xs k 0
root-bounds zero k xs m h low high = absurd (omega arith)
root-bounds (suc n) k xs m h low high =
    elim (cases_lt k 2) [
      | inl one ↦ let is : get_or xs k 0 ≡ get_or xs 1 0 = ap (λ i. get_or xs i 0) (let e : k ≡ 1 = omega arith in e) in omega (arith, is)
      | inr above ↦
          let half : ℕ = k / 2 in
          let up : get_or xs 1 0 ≤ get_or xs (k / 2) 0 = root-bounds n (k / 2) xs m (omega arith) (omega arith) (omega arith) in
          let down : get_or xs (k / 2) 0 ≤ get_or xs k 0 = less-below xs (k / 2) k (m (k / 2) (omega arith) (omega arith)) (below-half k) in
          omega (arith, up, down)
    ]

-- the less of two is one of them
pub min-is : (a b : ℕ) → (min a b ≡ a) ⊎ (min a b ≡ b)
min-is a b = elim (cases_lt a b) [ inl less ↦ inl (omega arith) | inr more ↦ inr (omega arith) ]

-- each number stands at some leaf
pub leaf-of : (n k : ℕ) (xs : List ℕ) → HasMinima xs → NODES ≤ n + k → 1 ≤ k → k < NODES
    → (rank : ℕ) × (rank < LEAVES) × (get_or xs (LEAVES + rank) 0 ≡ get_or xs k 0)
leaf-of zero k xs m h low high = absurd (omega arith)
leaf-of (suc n) k xs m h low high =
    elim (cases_lt k LEAVES) [
      | inl inner ↦
          let less : get_or xs k 0 ≡ min (get_or xs (2 * k) 0) (get_or xs (2 * k + 1) 0) = m k low inner in
          elim (min-is (get_or xs (2 * k) 0) (get_or xs (2 * k + 1) 0)) [
            | inl left ↦
                let below : (rank : ℕ) × (rank < LEAVES) × (get_or xs (LEAVES + rank) 0 ≡ get_or xs (2 * k) 0) =
                leaf-of n (2 * k) xs m (omega arith) (omega arith) (omega arith) in
                (below.0, below.1, below.2 ∙ sym (less ∙ left))
            | inr right ↦
                let below : (rank : ℕ) × (rank < LEAVES) × (get_or xs (LEAVES + rank) 0 ≡ get_or xs (2 * k + 1) 0) =
                leaf-of n (2 * k + 1) xs m (omega arith) (omega arith) (omega arith) in
                (below.0, below.1, below.2 ∙ sym (less ∙ right))
          ]
      | inr leaf ↦ (k - LEAVES, omega arith, ap (λ i. get_or xs i 0) (let e : LEAVES + (k - LEAVES) ≡ k = omega arith in e))
    ]

-- where all numbers are never due each of them is
pub all-never : (xs : List ℕ) → xs ≡ replicate NODES never_due → (k : ℕ) → k < NODES → get_or xs k 0 ≡ never_due
all-never xs is k h = rw is (get_or-replicate NODES k never_due 0 h)

-- where all numbers are never due each is less than or equal to the two below it
pub never-minima : (xs : List ℕ) → xs ≡ replicate NODES never_due → HasMinima xs
never-minima xs is k low high =
    let here : get_or xs k 0 ≡ never_due = all-never xs is k (omega arith) in
    let left : get_or xs (2 * k) 0 ≡ never_due = all-never xs is (2 * k) (omega arith) in
    let right : get_or xs (2 * k + 1) 0 ≡ never_due = all-never xs is (2 * k + 1) (omega arith) in
    omega (arith, here, left, right)

-- where all numbers are never due no rank is due
pub never-ranks : (xs : List ℕ) → xs ≡ replicate NODES never_due → AreNever xs
never-ranks xs is rank h = all-never xs is (LEAVES + rank) (omega arith)

-- where the root is never due no rank is
pub nothing-due : (xs : List ℕ) → HasMinima xs → AreLeavesRanked xs → get_or xs 1 0 ≡ never_due → AreNever xs
nothing-due xs m ranks root rank h =
    let up : get_or xs 1 0 ≤ get_or xs (LEAVES + rank) 0 = root-bounds NODES (LEAVES + rank) xs m (omega arith) (omega arith) (omega arith) in
    elim (ranks rank h) [ inl none ↦ none | inr (stand, small) ↦ absurd (omega (arith, up, root, small)) ]

-- where the root is due, it has the time and the rank of what is due first
pub first-due : (xs : List ℕ) → HasMinima xs → AreLeavesRanked xs → get_or xs 1 0 ≢ never_due
    → IsFirstDue xs (get_or xs 1 0 / LEAVES) (get_or xs 1 0 % LEAVES)
first-due xs m ranks due =
    let leaf : (rank : ℕ) × (rank < LEAVES) × (get_or xs (LEAVES + rank) 0 ≡ get_or xs 1 0) =
    leaf-of NODES 1 xs m (omega arith) (omega arith) (omega arith) in
    let stand : get_or xs 1 0 % LEAVES ≡ leaf.0 = elim (ranks leaf.0 leaf.1) [
      | inl none ↦ absurd (due (sym leaf.2 ∙ none))
      | inr (here, small) ↦ sym (ap (λ n. n % LEAVES) leaf.2) ∙ here
    ] in
    record {
      within = omega arith;
      taken =
          let e : get_or xs (LEAVES + get_or xs 1 0 % LEAVES) 0 ≡ get_or xs (LEAVES + leaf.0) 0 =
          ap (λ i. get_or xs (LEAVES + i) 0) stand in
          omega (arith, e, leaf.2);
      bound = λ other h.
          let up : get_or xs 1 0 ≤ get_or xs (LEAVES + other) 0 =
          root-bounds NODES (LEAVES + other) xs m (omega arith) (omega arith) (omega arith) in
          omega (arith, up);
    }

-- what is due first has a rank, and no spare leaf
pub first-rank : (xs : List ℕ) (time rank : ℕ) → AreLeavesRanked xs → HasSpareLeaves xs → time * INSTANT + rank ≢ never_due
    → IsFirstDue xs time rank
    → rank < RANKS
first-rank xs time rank ranks spare due first = elim (cases_lt rank RANKS) [
  | inl low ↦ low
  | inr high ↦ absurd (due (sym first.taken ∙ spare rank high first.within))
]

-- what stands inside a list is the same whatever would stand outside
pub same-number : (xs : List ℕ) (n : ℕ) → 1 < length xs → n ≡ get_or xs 1 n → n ≡ get_or xs 1 0
same-number xs n h is = is ∙ get_or_default_zero xs 1 n h

-- where a leaf gets another number, only the node above it may have another than the less of its two
pub changed-leaf : (xs : List ℕ) (leaf n : ℕ) → LEAVES ≤ leaf → HasMinima xs → HasOtherMinima (leaf / 2) (set xs leaf n)
changed-leaf xs leaf n high m k low small but =
    let here : get_or (set xs leaf n) k 0 ≡ get_or xs k 0 = get_or-set_other xs leaf k n 0 (omega arith) in
    let left : get_or (set xs leaf n) (2 * k) 0 ≡ get_or xs (2 * k) 0 = get_or-set_other xs leaf (2 * k) n 0 (omega arith) in
    let right : get_or (set xs leaf n) (2 * k + 1) 0 ≡ get_or xs (2 * k + 1) 0 = get_or-set_other xs leaf (2 * k + 1) n 0 (omega arith) in
    rw (here, left, right) (m k low small)

-- where a node gets the less of its two, only the node above it may have another than the less of its two
pub recomputed-node : (xs : List ℕ) (h n : ℕ) → 1 ≤ h → h < length xs
    → n ≡ min (get_or xs (2 * h) 0) (get_or xs (2 * h + 1) 0) → HasOtherMinima h xs
    → HasOtherMinima (h / 2) (set xs h n)
recomputed-node xs h n positive inside is others k low small but =
    let left : get_or (set xs h n) (2 * k) 0 ≡ get_or xs (2 * k) 0 = get_or-set_other xs h (2 * k) n 0 (omega arith) in
    let right : get_or (set xs h n) (2 * k + 1) 0 ≡ get_or xs (2 * k + 1) 0 = get_or-set_other xs h (2 * k + 1) n 0 (omega arith) in
    let here : get_or (set xs h n) k 0 ≡ min (get_or xs (2 * k) 0) (get_or xs (2 * k + 1) 0) = elim (cases_eq k h) [
      | inl same ↦ get_or-set_at xs h k n 0 same inside ∙ is ∙ sym (ap (λ i. min (get_or xs (2 * i) 0) (get_or xs (2 * i + 1) 0)) same)
      | inr other ↦ get_or-set_other xs h k n 0 other ∙ others k low small other
    ] in
    rw (left, right) here
