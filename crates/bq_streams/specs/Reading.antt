-- What a reader gave.
use Rattle.std.specs.Prelude.{ℕ, List, Option}
use Rattle.std.specs.Io.KnownBytes.{Consumes, IsAtEnd}

-- the reader gave these bytes and has no more
abbrev pub GivesAll : Option (List ℕ) → Option (List ℕ) → List ℕ → Type 0
GivesAll from to bytes = Consumes from to bytes × IsAtEnd to

-- the reader gave some bytes
abbrev pub GivesSome : Option (List ℕ) → Option (List ℕ) → Type 0
GivesSome from to = (bytes : List ℕ) × Consumes from to bytes
