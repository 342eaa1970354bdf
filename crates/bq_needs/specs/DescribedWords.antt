-- What a text says of a word, as it is read.
use Rattle.std.specs.Prelude.{◌≡◌, ℕ, ◌+◌, ◌%◌, ◌^◌, ◌<◌, ◌≤◌, ◌⊎◌, List, [], ◌++◌, length, codes, slice_get}
use Rattle.std.specs.Fmt.{decimal}
use Rattle.bq_bpf.specs.declared.shape.MapShape.{MapShape}
use Rattle.bq_bpf.specs.Memory.{IsEntry, reference, values_base, context_base, stack_base, stack_size}
use Rattle.bq_needs.specs.Texts.{below_text, between, minus_text}

-- the word is so far from a place: nothing is added, or a number of a range, or a number of a range is taken away
pub data DescribesPlace : List ℕ → ℕ → ℕ → Type 0 where
  there : (place word : ℕ) → word ≡ place % 2 ^ 64 → DescribesPlace [] place word
  above : (lo hi n place word : ℕ) → lo ≤ n → n ≤ hi → word ≡ (place + n) % 2 ^ 64 → DescribesPlace (codes " + " ++ between lo hi) place word
  under : (far near n place word : ℕ) → near ≤ n → n ≤ far → (word + n) % 2 ^ 64 ≡ place % 2 ^ 64 → DescribesPlace (below_text far near) place word

-- the text names the map, or a map of its shape and that it may be another one
pub data DescribesMap (shapes : List MapShape) : List ℕ → ℕ → Type 0 where
  itself : (map : ℕ) → DescribesMap shapes (codes "map " ++ decimal map) map
  alike : (named map : ℕ) → slice_get shapes map ≡ slice_get shapes named → DescribesMap shapes (codes "map " ++ (decimal named ++ codes " or a map like it")) map

-- the first address of some entry of that very map
pub record IsEntryOf (shapes : List MapShape) (map base : ℕ) : Type 0 where
  pub first : ℕ
  pub size : ℕ
  pub entry : IsEntry shapes map first size
  pub base_is : base ≡ values_base map + first

-- the word is as the text says; a number below zero is the word that makes 2^64 with what is taken away
pub data DescribesWord : List MapShape → List ℕ → ℕ → Type 0 where
  any_number : (shapes : List MapShape) (word : ℕ) → DescribesWord shapes (codes "any number") word
  number : (shapes : List MapShape) (lo hi word : ℕ) → lo ≤ word → word ≤ hi → DescribesWord shapes (between lo hi) word
  number_below : (shapes : List MapShape) (far near n word : ℕ) → near ≤ n → n ≤ far → word + n ≡ 2 ^ 64 → DescribesWord shapes (minus_text far near) word
  context : (shapes : List MapShape) (text : List ℕ) (word : ℕ) → DescribesPlace text context_base word → DescribesWord shapes (codes "context" ++ text) word
  stack_begin : (shapes : List MapShape) (text : List ℕ) (word : ℕ) → DescribesPlace text stack_base word → DescribesWord shapes (codes "stack begin" ++ text) word
  stack_end : (shapes : List MapShape) (text : List ℕ) (word : ℕ) → DescribesPlace text (stack_base + stack_size) word → DescribesWord shapes (codes "stack end" ++ text) word
  entry : (shapes : List MapShape) (name text : List ℕ) (map base word : ℕ) → DescribesMap shapes name map
      → IsEntryOf shapes map base → DescribesPlace text base word → DescribesWord shapes (codes "entry of " ++ (name ++ text)) word
  entry_or_null : (shapes : List MapShape) (name text : List ℕ) (map base word : ℕ) → DescribesMap shapes name map
      → (base ≡ 0) ⊎ IsEntryOf shapes map base → DescribesPlace text base word → DescribesWord shapes (codes "entry of " ++ (name ++ (codes " or null" ++ (text ++ codes ", not tested")))) word
  map_reference : (shapes : List MapShape) (name text : List ℕ) (map word : ℕ) → DescribesMap shapes name map
      → map < length shapes → DescribesPlace text (reference map) word → DescribesWord shapes (name ++ text) word
