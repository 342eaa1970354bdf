-- The marks of a text: lines that begin with `;@`, which say of the program what no instruction says.
use Rattle.std.specs.Prelude.{ℕ, Bool, true, false, ◌||◌, List, [], ◌∷◌, drop, Option, Some, None, if◌then◌else◌, codes, nat_eq}
use Rattle.std.specs.List.{starts_with, flat_map}
use Rattle.std.specs.Str.{bytes_eq}
use Rattle.bq_words.specs.Words.{words}
use Rattle.bq_policy_file.specs.declared.mark.Key.{Key}
use Rattle.bq_policy_file.specs.declared.mark.Key.TheVariants as key

-- the word of a key
abbrev pub key_word : Key → List ℕ
key_word key.Hook = codes "hook"
key_word key.Maps = codes "maps"
key_word key.Format = codes "format"

-- the words of a mark; None of any other line
abbrev pub mark_words : List ℕ → Option (List (List ℕ))
mark_words line = if starts_with nat_eq line (codes ";@") then Some (words (drop 2 line)) else None

-- what the words say of a key
abbrev pub value_in : List ℕ → Option (List (List ℕ)) → List (List ℕ)
value_in key (Some (word ∷ value ∷ [])) = if bytes_eq word key then value ∷ [] else []
value_in key other = []

-- what the lines say of a key, one line after the other
abbrev pub values : Key → List (List ℕ) → List (List ℕ)
values key lines = flat_map (λ line. value_in (key_word key) (mark_words line)) lines

-- a word is one of the keys
abbrev pub is_key : List ℕ → Bool
is_key word = bytes_eq word (codes "hook") || (bytes_eq word (codes "maps") || bytes_eq word (codes "format"))

-- a mark is a key and its value; other lines may say what they like
abbrev pub are_known : Option (List (List ℕ)) → Bool
are_known None = true
are_known (Some (word ∷ value ∷ [])) = is_key word
are_known (Some other) = false
