-- Numbers and parts of a file; numbers are little-endian.
use Rattle.std.specs.Prelude.{◌≡◌, ℕ, ◌+◌, ◌≤◌, List, length, drop, slice_range}
use Rattle.byteorder.specs.Endian.{little_number}

-- the number in this many bytes at the offset
abbrev pub number_at : ℕ → List ℕ → ℕ → ℕ
number_at long bytes at = little_number long (drop at bytes)

-- these are the bytes from an offset on, that many of them
pub record IsPart (bytes : List ℕ) (at long : ℕ) (part : List ℕ) : Type 0 where
  pub fits : at + long ≤ length bytes
  pub part_is : part ≡ slice_range bytes at (at + long)
