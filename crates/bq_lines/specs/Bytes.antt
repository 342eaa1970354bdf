-- The bytes that a line of a trace may have.
use Rattle.std.specs.Prelude.{ℕ, Bool, ◌&&◌, ◌||◌, ◌==◌, nat_le}

-- printable ASCII and tab are allowed
abbrev pub is_allowed : ℕ → Bool
is_allowed b = (nat_le 32 b && nat_le b 126) || (b == 9)
