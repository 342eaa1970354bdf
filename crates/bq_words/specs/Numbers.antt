-- The numbers that words write.
use Rattle.std.specs.Prelude.{ℕ, ◌^◌, ◌&&◌, nat_eq, nat_lt, List, drop, length, Option, Some, None, codes, if◌then◌else◌}
use Rattle.std.specs.List.{list_all, starts_with}
use Rattle.std.specs.Char.{digit_value}
use Rattle.std.specs.Str.Parse.{digits_value}

-- the number that digits of this base write: at least one digit, and the number fits 64 bits
abbrev pub number_in_base : ℕ → List ℕ → Option ℕ
number_in_base radix word =
    if nat_lt 0 (length word) && (list_all (λ c. nat_lt (digit_value c) radix) word && nat_lt (digits_value radix word) (2 ^ 64))
    then Some (digits_value radix word) else None

-- the number that a word writes in decimal, or in hex digits of either case after `0x`
abbrev pub value_of : List ℕ → Option ℕ
value_of word = if starts_with nat_eq word (codes "0x") then number_in_base 16 (drop 2 word) else number_in_base 10 word

-- the number, if it is below the limit
abbrev pub below : ℕ → Option ℕ → Option ℕ
below limit None = None
below limit (Some n) = if nat_lt n limit then Some n else None
