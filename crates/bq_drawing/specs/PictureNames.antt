-- The name of a picture, by which its styles are its own.
use Rattle.std.specs.Prelude.{ℕ, ◌-◌, ◌*◌, ◌%◌, ◌^◌, false, List, [], ◌++◌, bit_xor, codes}
use Rattle.std.specs.Fmt.{digits, format_spec, padded_integral}
use Rattle.std.specs.List.{fold}
use Rattle.bq_drawing.specs.declared.theme.Theme.{Theme}
use Rattle.bq_drawing.specs.declared.theme.Theme.TheVariants.{Light, Dark, Auto}

-- the hash after one more byte, by the 32-bit hash of Fowler, Noll and Vo (FNV-1a)
abbrev pub mixed : ℕ → ℕ → ℕ
mixed hash byte = bit_xor hash byte * 16777619 % 2 ^ 32

-- the hash before any byte
abbrev pub hash_basis : ℕ
hash_basis = 2166136261

-- the letter of a theme
abbrev pub theme_letter : Theme → ℕ
theme_letter Light = 108
theme_letter Dark = 100
theme_letter Auto = 97

-- the hash of what is drawn in a theme
abbrev pub hash_of : Theme → List ℕ → ℕ
hash_of theme drawn = fold mixed (mixed hash_basis (theme_letter theme)) drawn

-- a number in eight hexadecimal digits
abbrev pub eight_digits : ℕ → List ℕ
eight_digits n = padded_integral (format_spec 32 0 4 8 (2 ^ 64 - 1)) false [] (digits 16 false n)

-- the name of a picture
abbrev pub picture_name_text : ℕ → List ℕ
picture_name_text hash = codes "bqsim-" ++ eight_digits hash
