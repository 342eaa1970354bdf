-- Items and their places.
use Rattle.std.specs.Prelude.{◌≡◌, ◌<◌, ℕ, eqb, List, length, slice_index_or}
use Rattle.bq_history.specs.Whole.{count}

module _ {A : Type 0} (place : A → ℕ) where
  -- the item with place s is at index j
  abbrev pub IsAt : List A → ℕ → ℕ → Type 0
  IsAt items s j = (j < length items) × ((d : A) → place (slice_index_or items j d) ≡ s)

  -- how many items have the place s
  abbrev pub times : ℕ → List A → ℕ
  times s items = count (λ (x : A). eqb (place x) s) items

  -- each place below the number of items belongs to some item
  abbrev pub AreAll : List A → Type 0
  AreAll items = (s : ℕ) → s < length items → (j : ℕ) × IsAt items s j

  -- the first n items are at their places
  abbrev pub ArePlaced : ℕ → List A → Type 0
  ArePlaced n items = (k : ℕ) → k < n → (d : A) → place (slice_index_or items k d) ≡ k

-- the list has the item's content at the item's place
abbrev pub IsAtItsPlace : {A B : Type 0} → (A → ℕ) → (A → B) → B → List B → A → Type 0
IsAtItsPlace place content d list x = (place x < length list) × (slice_index_or list (place x) d ≡ content x)

-- each of the new items is one of the old items
abbrev pub AreFrom : {A : Type 0} → List A → List A → Type 0
AreFrom {A} old new = (k : ℕ) → k < length new → (j : ℕ) × (j < length old) × ((d : A) → slice_index_or new k d ≡ slice_index_or old j d)
