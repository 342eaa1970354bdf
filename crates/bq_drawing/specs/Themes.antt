-- The themes of pictures by their names.
use Rattle.std.specs.Prelude.{ℕ, List, Option, Some, None, bytes_eq, codes, if◌then◌else◌}
use Rattle.bq_drawing.specs.declared.theme.Theme.{Theme}
use Rattle.bq_drawing.specs.declared.theme.Theme.TheVariants.{Light, Dark, Auto}

-- the theme of this name, if there is one
abbrev pub theme_of : List ℕ → Option Theme
theme_of word =
    if bytes_eq word (codes "light") then Some Light
    else if bytes_eq word (codes "dark") then Some Dark
    else if bytes_eq word (codes "auto") then Some Auto
    else None
