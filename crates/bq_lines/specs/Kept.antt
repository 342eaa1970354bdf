-- What is kept of a line that has begun.
use Rattle.std.specs.Prelude.{◌≡◌, ℕ, false, ◌==◌, nat_lt, List, length, Option, Some, None, if◌then◌else◌}
use Rattle.std.specs.List.{All}
use Rattle.bq_lines.specs.declared.lines.TheConstants.{LONGEST}

-- no byte of the line is a line feed
abbrev pub IsOneLine : List ℕ → Type 0
IsOneLine line = All (λ b. (b == 10) ≡ false) line

-- the line itself, or nothing if it is longer than 131073 bytes: then it is too long even without a CR at its end
abbrev pub line_kept : List ℕ → Option (List ℕ)
line_kept line = if nat_lt 131073 (length line) then None else Some line

-- what is kept stands for this line, which has no line feed
pub record KeepsLine (kept : Option (List ℕ)) (line : List ℕ) : Type 0 where
  pub one_line : IsOneLine line
  pub kept_is : kept ≡ line_kept line

-- the line, or nothing if it is too long
abbrev pub short_line : List ℕ → Option (List ℕ)
short_line line = if nat_lt LONGEST (length line) then None else Some line
