-- The limits of a map.
use Rattle.std.specs.Prelude.{◌≡◌, ℕ, ◌%◌, ◌≤◌}

-- a value has 8 to 256 bytes, a multiple of 8, and a map has 1 to 256 entries
pub record IsShape (value_size entries : ℕ) : Type 0 where
  pub least_size : 8 ≤ value_size
  pub greatest_size : value_size ≤ 256
  pub eights : value_size % 8 ≡ 0
  pub least_entries : 1 ≤ entries
  pub greatest_entries : entries ≤ 256
