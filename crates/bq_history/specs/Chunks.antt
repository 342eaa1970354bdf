-- Records in chunks of 16.
use Rattle.std.specs.Prelude.{◌≡◌, ◌<◌, ◌≤◌, List, [], ◌∷◌, length, flat_map}

module _ {R : Type 0} where
  -- the records of all chunks, in order
  abbrev pub joined : List (List R) → List R
  joined chunks = flat_map (λ c. c) chunks

  -- each chunk is full except for the last, which has at least one record
  abbrev pub AreChunks : List (List R) → Type 0
  AreChunks [] = Unit {0}
  AreChunks (c ∷ []) = (0 < length c) × (length c ≤ 16)
  AreChunks (c ∷ d ∷ cs) = (length c ≡ 16) × AreChunks (d ∷ cs)
