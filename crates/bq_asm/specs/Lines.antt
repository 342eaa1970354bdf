-- What the lines of a program's text say. A line ends at a line feed or at the text's end, and loses one carriage
-- return before the line feed. A semicolon begins a comment, and spaces, tabs and commas separate words.
use Rattle.std.specs.Prelude.{ℕ, ◌-◌, Bool, true, false, ◌||◌, ◌==◌, List, [], ◌∷◌, length, take, drop, slice_get, unwrap_or, map, Option, Some, None, if◌then◌else◌, codes}
use Rattle.std.specs.List.{before_first}
use Rattle.std.specs.Str.{bytes_eq}
use Rattle.std.specs.Str.Lines.{lines}
use Rattle.bq_words.specs.Words.{words_by}

-- a semicolon, which begins a comment
abbrev pub is_comment : ℕ → Bool
is_comment b = b == 59

-- a space, a tab or a comma
abbrev pub is_blank : ℕ → Bool
is_blank b = (b == 32) || ((b == 9) || (b == 44))

-- the words of a text: what is between blanks
abbrev pub words_between_blanks : List ℕ → List (List ℕ)
words_between_blanks text = words_by is_blank text

-- what a line says: nothing, a label that it sets, or an instruction by its first word and its operands
pub data Line : Type 0 where
  Blank : Line
  Label : List ℕ → Line
  Instruction : List ℕ → List (List ℕ) → Line

-- what a word has before the colon at its end; none if it ends with no colon
abbrev pub before_colon : List ℕ → Option (List ℕ)
before_colon word = if bytes_eq (drop (length word - 1) word) (codes ":") then Some (take (length word - 1) word) else None

-- the label that a line sets: its only word, without the colon at its end; none if the line has more words or no colon
abbrev pub label_set : List ℕ → List (List ℕ) → Option (List ℕ)
label_set first [] = before_colon first
label_set first (second ∷ operands) = None

-- what a line says: the label that it sets, or else an instruction
abbrev pub parsed : List ℕ → List (List ℕ) → Option (List ℕ) → Line
parsed first operands None = Instruction first operands
parsed first operands (Some name) = Label name

-- what the words of a line say
abbrev pub line_of_words : List (List ℕ) → Line
line_of_words [] = Blank
line_of_words (first ∷ operands) = parsed first operands (label_set first operands)

-- what one line of the text says
abbrev pub parsed_line : List ℕ → Line
parsed_line line = line_of_words (words_between_blanks (before_first is_comment line))

-- whether a line says an instruction
abbrev pub is_instruction : Line → Bool
is_instruction (Instruction first operands) = true
is_instruction line = false

-- what the lines of a text say
abbrev pub lines_of : List ℕ → List Line
lines_of text = map parsed_line (lines text)

-- the last of these words; empty if there are none
abbrev pub last_word : List (List ℕ) → List ℕ
last_word operands = unwrap_or (slice_get operands (length operands - 1)) []
