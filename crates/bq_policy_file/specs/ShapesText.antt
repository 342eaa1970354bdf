-- The shapes of maps as a text: for each the size of a value and the number of entries, as in `8:2,16:4`.
use Rattle.std.specs.Prelude.{◌≡◌, ℕ, ◌<◌, ◌≤◌, ◌^◌, true, false, ◌&&◌, ◌==◌, nat_lt, List, [], ◌∷◌, length, map, take, slice_index, Option, Some, None, if◌then◌else◌}
use Rattle.std.specs.List.{All, list_all}
use Rattle.std.specs.Borrow.{Bor}
use Rattle.std.specs.Char.{digit_value}
use Rattle.std.specs.Str.Parse.{digits_value}
use Rattle.bq_bpf.specs.declared.shape.MapShape.{MapShape}
use Rattle.bq_words.specs.Words.{parts}
use Rattle.bq_bpf.specs.declared.shape.TheConstants.{MAPS}

-- the first `len` bytes of the text are no marks, and a mark or the end follows them
pub record IsPartLen (mark : ℕ) (text : List ℕ) (len : ℕ) : Type 0 where
  pub within : len ≤ length text
  pub others : All (λ b. (b == mark) ≡ false) (take len text)
  pub ends : len < length text → (slice_index text len == mark) ≡ true

-- the parts of the text after a mark, if there is one
abbrev pub parts_after : ℕ → Option (Bor (List ℕ)) → List (List ℕ)
parts_after mark None = []
parts_after mark (Some rest) = parts mark rest.now

-- decimal digits, one or more, whose number fits 16 bits
abbrev pub shape_number : List ℕ → Option ℕ
shape_number word =
    if nat_lt 0 (length word) && (list_all (λ c. nat_lt (digit_value c) 10) word && nat_lt (digits_value 10 word) (2 ^ 16))
    then Some (digits_value 10 word) else None

-- both numbers, if both are there
abbrev pub both_numbers : Option ℕ → Option ℕ → Option (ℕ × ℕ)
both_numbers (Some a) (Some b) = Some (a, b)
both_numbers _ _ = None

-- two numbers, and nothing else
abbrev pub pair_of : List (List ℕ) → Option (ℕ × ℕ)
pair_of (a ∷ b ∷ []) = both_numbers (shape_number a) (shape_number b)
pair_of _ = None

-- the two numbers around a colon
abbrev pub numbers_in : List ℕ → Option (ℕ × ℕ)
numbers_in part = pair_of (parts 58 part)

-- the two numbers of a shape: the size of a value and the number of entries
abbrev pub numbers_of : MapShape → Option (ℕ × ℕ)
numbers_of s = Some (s.value_size, s.entries)

-- the text names these shapes, at most 8, with commas between them
pub record NamesShapes (text : List ℕ) (shapes : List MapShape) : Type 0 where
  pub each : map numbers_in (parts 44 text) ≡ map numbers_of shapes
  pub few : length shapes ≤ MAPS

-- the text names no shapes
abbrev pub NamesNoShapes : List ℕ → Type 0
NamesNoShapes text = (shapes : List MapShape) → NamesShapes text shapes → ⊥
