-- The line that refuses an input, or a line of one.
use Rattle.std.specs.Prelude.{ℕ, List, ◌++◌, codes}

-- the word `refused`, the reason, and the line's end
abbrev pub refused_line : List ℕ → List ℕ
refused_line why = codes "refused " ++ (why ++ codes "\n")
