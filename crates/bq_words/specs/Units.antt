-- Units of time as words.
use Rattle.std.specs.Prelude.{ℕ, List, Option, Some, None, if◌then◌else◌, codes}
use Rattle.std.specs.Str.{bytes_eq}

-- how many nanoseconds a unit has, if the word is a unit
abbrev pub unit_of : List ℕ → Option ℕ
unit_of u =
    if bytes_eq u (codes "ns") then Some 1
    else if bytes_eq u (codes "us") then Some 1000
    else if bytes_eq u (codes "ms") then Some 1000000
    else if bytes_eq u (codes "s") then Some 1000000000
    else None
