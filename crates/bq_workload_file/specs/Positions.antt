-- The position of a byte of a text as a reader counts it: its line and its column, both from 1.
use Rattle.std.specs.Prelude.{◌≡◌, ℕ, ◌+◌, ◌≤◌, Bool, not, ◌==◌, List, take, reverse, length, count_by, take_while}
use Rattle.std.specs.Fmt.{is_char_start}

-- a byte ends a line
abbrev pub is_line_end : ℕ → Bool
is_line_end b = b == 10

-- the line of what comes after these bytes: one more than the line ends among them
abbrev pub line_after : List ℕ → ℕ
line_after before = count_by is_line_end before + 1

-- the bytes after the last line end, read backwards
abbrev pub last_line : List ℕ → List ℕ
last_line before = take_while (λ b. not (is_line_end b)) (reverse before)

-- the column of what comes after these bytes: one more than the characters after the last line end
abbrev pub column_after : List ℕ → ℕ
column_after before = count_by is_char_start (last_line before) + 1

-- the line and the column of a byte of the text, or of its end
abbrev pub IsTextPlace : List ℕ → ℕ → ℕ → Type 0
IsTextPlace text line column = (at : ℕ) × (at ≤ length text) × (line ≡ line_after (take at text)) × (column ≡ column_after (take at text))
