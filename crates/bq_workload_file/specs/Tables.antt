-- Tables with one entry.
use Rattle.std.specs.Prelude.{ℕ, List, Option, Some, None}
use Rattle.toml.specs.Data.{Data, Members, no_members, member}

-- the key and the value of the one entry
abbrev pub only_of : Members → Option (List ℕ × Data)
only_of (member key value no_members) = Some (key, value)
only_of other = None
