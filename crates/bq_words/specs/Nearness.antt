-- How near a word is to what was written in its place.
use Rattle.std.specs.Prelude.{ℕ, List, Option, Some, None, length, min, fold, nat_eq, nat_lt, if◌then◌else◌}
use Rattle.std.specs.Borrow.{Bor}
use Rattle.std.specs.Str.{chars}
use Rattle.strsim.specs.Edits.{levenshtein_row}

-- how many edits lead from the one word to the other
abbrev pub edits : List ℕ → List ℕ → ℕ
edits meant known = levenshtein_row nat_eq (chars meant) (chars known) (length (chars known))

-- how many edits are too many for a misspelling: three, or the number of its bytes if that is less; one of more than 40 bytes has none
abbrev pub edits_before : List ℕ → ℕ
edits_before meant = if nat_lt 40 (length meant) then 0 else min (length meant) 3

-- the smaller of two numbers of edits
abbrev pub fewer : ℕ → ℕ → ℕ
fewer before edits = if nat_lt edits before then edits else before

-- how many edits are too many after a word, and the nearest word so far, if one is near
abbrev pub after_word : List ℕ → ℕ × Option (Bor (List ℕ)) → Bor (List ℕ) → ℕ × Option (Bor (List ℕ))
after_word meant (before, best) known =
    (fewer before (edits meant known.now), if nat_lt (edits meant known.now) before then Some known else best)

-- the same after some words
abbrev pub after_words : List ℕ → List (Bor (List ℕ)) → ℕ × Option (Bor (List ℕ))
after_words meant known = fold (after_word meant) (edits_before meant, None) known

-- the first of the known words that are nearest to what was written, if one is near
abbrev pub nearest : List ℕ → List (Bor (List ℕ)) → Option (Bor (List ℕ))
nearest meant known = (after_words meant known).1
