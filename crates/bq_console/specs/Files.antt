-- Which file a word names.
use Rattle.std.specs.Prelude.{ℕ, List, Option, None, Some, if◌then◌else◌, codes, option_and_then, option_map, unwrap_or}
use Rattle.std.specs.Str.{bytes_eq}
use Rattle.std.specs.String.{string_bytes}
use Rattle.std.specs.Prelude.{String}
use Rattle.std.specs.declared.alloc.Global.{Global}

-- the file that a word names; `-` names none, and means standard input
abbrev pub file_in : List ℕ → Option (List ℕ)
file_in word = if bytes_eq word (codes "-") then None else Some word

-- the file that a word names, if there is one
abbrev pub file_named : Option (String Global) → Option (List ℕ)
file_named word = option_and_then file_in (option_map (λ w. string_bytes w) word)

-- what messages call it
abbrev pub input_name : Option (String Global) → List ℕ
input_name word = unwrap_or (file_named word) (codes "standard input")
