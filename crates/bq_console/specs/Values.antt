-- Values of options that are refused.
use Rattle.std.specs.Prelude.{◌≡◌, ◌&&◌, ℕ, Bool, true, List, ◌++◌, length, nat_le, nat_lt, Option, Some, None, if◌then◌else◌, codes, string_bytes}
use Rattle.std.specs.List.{list_all}
use Rattle.bq_console.specs.declared.fault.WordsFault.{WordsFault}
use Rattle.bq_console.specs.declared.fault.WordsFault.TheVariants as fault
use Rattle.bq_console.specs.declared.printable.TheConstants.{QUOTED}

-- a printable character of ASCII
abbrev pub is_printable : ℕ → Bool
is_printable byte = nat_le 32 byte && nat_lt byte 127

-- the word has at most 40 characters, all printable
abbrev pub is_plain : List ℕ → Bool
is_plain word = nat_le (length word) QUOTED && list_all is_printable word

-- how a message quotes a word: as it is, if it is plain
abbrev pub quoted : List ℕ → Option (List ℕ)
quoted word = if is_plain word then Some word else None

-- what is said of a value: its option, the value in quotes, and what is right
abbrev pub value_refusal : List ℕ → List ℕ → List ℕ → List ℕ
value_refusal option value right = codes "--" ++ (option ++ (codes " \"" ++ (value ++ (codes "\": " ++ right))))

-- the text says that of a plain value; the word that was perhaps meant may follow
abbrev pub RefusesValue : List ℕ → List ℕ → List ℕ → List ℕ → Type 0
RefusesValue option value right text = is_plain value ≡ true → (meant : List ℕ) × (text ≡ value_refusal option value right ++ meant)

-- the fault tells that in a line, or memory ran out for it
abbrev pub IsValueRefusal : List ℕ → List ℕ → List ℕ → WordsFault → Type 0
IsValueRefusal option value right (fault.Words text) = (why : List ℕ) × RefusesValue option value right why × (string_bytes text ≡ codes "error: " ++ (why ++ codes "\n"))
IsValueRefusal option value right fault.OutOfMemory = Unit {0}
