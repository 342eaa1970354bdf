-- Counts of 128 bits, which stop at the greatest, and the parts of a nanosecond.
use Rattle.std.specs.Prelude.{ℕ, ◌+◌, ◌-◌, ◌^◌, min}

-- a count after this many more
abbrev pub counted_wide : ℕ → ℕ → ℕ
counted_wide n more = min (n + more) (2 ^ 128 - 1)

-- how many parts a nanosecond has: shares are counted in whole parts
abbrev pub parts_per_nanosecond : ℕ
parts_per_nanosecond = 1000000000000
