-- Counts of 64 bits, which stop at the greatest.
use Rattle.std.specs.Prelude.{ℕ, ◌+◌, ◌-◌, ◌^◌, min}

-- a count, with this many more
abbrev pub saturating_sum : ℕ → ℕ → ℕ
saturating_sum n more = min (n + more) (2 ^ 64 - 1)
