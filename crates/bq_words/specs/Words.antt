-- The words of a line: what is between blanks, whichever bytes are blanks.
use Rattle.std.specs.Prelude.{◌≡◌, ℕ, ◌<◌, ◌≤◌, Bool, false, true, ◌||◌, ◌==◌, nat_lt, List, [], ◌∷◌, length, take, filter, slice_index, Option, Some, None}
use Rattle.std.specs.List.{All, slice_split}

-- the nonempty parts between blanks
abbrev pub words_by : (ℕ → Bool) → List ℕ → List (List ℕ)
words_by is_blank line = filter (λ w. nat_lt 0 (length w)) (slice_split is_blank line)

-- space and tab
abbrev pub is_space : ℕ → Bool
is_space b = (b == 32) || (b == 9)

-- the words between spaces and tabs
abbrev pub words : List ℕ → List (List ℕ)
words line = words_by is_space line

-- the words of a text that must have an exact number of them

-- the word of a list that has exactly one
abbrev pub one_of : List (List ℕ) → Option (List ℕ)
one_of (word ∷ []) = Some word
one_of other = None

-- the two words of a list that has exactly two
abbrev pub two_of : List (List ℕ) → Option (List ℕ × List ℕ)
two_of (first ∷ second ∷ []) = Some (first, second)
two_of other = None

-- the three words of a list that has exactly three
abbrev pub three_of : List (List ℕ) → Option (List ℕ × List ℕ × List ℕ)
three_of (first ∷ second ∷ third ∷ []) = Some (first, second, third)
three_of other = None

-- the four words of a list that has exactly four
abbrev pub four_of : List (List ℕ) → Option (List ℕ × List ℕ × List ℕ × List ℕ)
four_of (first ∷ second ∷ third ∷ fourth ∷ []) = Some (first, second, third, fourth)
four_of other = None

-- the text is empty, or its first byte is no blank
abbrev pub StartsWithWord : (ℕ → Bool) → List ℕ → Type 0
StartsWithWord is_blank [] = Unit {0}
StartsWithWord is_blank (b ∷ bs) = is_blank b ≡ false

-- the first `len` bytes are no blanks, and then comes a blank or the end
pub record IsWordLen (is_blank : ℕ → Bool) (text : List ℕ) (len : ℕ) : Type 0 where
  pub within : len ≤ length text
  pub no_blank : All (λ b. is_blank b ≡ false) (take len text)
  pub then : len < length text → is_blank (slice_index text len) ≡ true

-- the parts between these bytes, including empty ones
abbrev pub parts : ℕ → List ℕ → List (List ℕ)
parts mark text = slice_split (λ b. b == mark) text
