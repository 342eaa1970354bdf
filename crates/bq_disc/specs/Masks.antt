-- Sets of processors: bit k of a mask is processor k.
use Rattle.std.specs.Prelude.{ℕ, ◌/◌, ◌%◌, ◌^◌, Bool, ◌==◌}

-- whether a mask has this processor
abbrev pub allows : ℕ → ℕ → Bool
allows mask processor = mask / 2 ^ processor % 2 == 1
