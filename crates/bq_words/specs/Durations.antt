-- Lengths of time as words: a number, with a fraction or without, and its unit.
use Rattle.std.specs.Prelude.{ℕ, Bool, not, ◌+◌, ◌*◌, ◌/◌, ◌^◌, ◌==◌, ◌&&◌, ◌||◌, nat_lt, List, [], ◌∷◌, length, take, drop, position, Option, Some, None, if◌then◌else◌, option_and_then}
use Rattle.std.specs.Char.{digit_value, is_ascii_digit}
use Rattle.std.specs.List.{list_all}
use Rattle.bq_words.specs.Numbers.{below}
use Rattle.bq_words.specs.Units.{unit_of}
use Rattle.bq_words.specs.Quantities.{decimal_of}

-- what the digits of a fraction are worth together: each digit counts a tenth of the one before it, in whole nanoseconds
abbrev pub parts_of : ℕ → List ℕ → ℕ
parts_of unit [] = 0
parts_of unit (c ∷ cs) = digit_value c * (unit / 10) + parts_of (unit / 10) cs

-- the nanoseconds of a fraction of a unit, which must have at least one digit
abbrev pub fraction_of : ℕ → List ℕ → Option ℕ
fraction_of unit digits =
    if nat_lt 0 (length digits) && list_all (λ c. nat_lt (digit_value c) 10) digits then Some (parts_of unit digits) else None

-- a point, which separates a number from its fraction
abbrev pub is_point : ℕ → Bool
is_point c = c == 46

-- a number of units, in nanoseconds, below 2^64: whole units, and a fraction if there is a point
abbrev pub amount_at : ℕ → List ℕ → Option ℕ → Option ℕ
amount_at unit number None = option_and_then (λ whole. below (2 ^ 64) (Some (whole * unit))) (decimal_of number)
amount_at unit number (Some point) =
    option_and_then (λ whole. option_and_then (λ part. below (2 ^ 64) (Some (whole * unit + part))) (fraction_of unit (drop (point + 1) number))) (decimal_of (take point number))

-- the nanoseconds of this number of units
abbrev pub amount_of : ℕ → List ℕ → Option ℕ
amount_of unit number = amount_at unit number (position is_point number)

-- the nanoseconds of a word whose number ends here: the rest is its unit
abbrev pub duration_at : List ℕ → ℕ → Option ℕ
duration_at word end = option_and_then (λ unit. amount_of unit (take end word)) (unit_of (drop end word))

-- a byte that is neither a digit nor a point
abbrev pub ends_number : ℕ → Bool
ends_number c = not (is_ascii_digit c || is_point c)

-- the nanoseconds that a word writes: its unit begins at the first byte that is neither a digit nor a point, and may not be missing
abbrev pub duration_of : List ℕ → Option ℕ
duration_of word = option_and_then (duration_at word) (position ends_number word)
