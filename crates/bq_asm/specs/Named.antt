-- The table of first words, read by the word.
use Rattle.std.specs.Prelude.{ℕ, List, [], ◌∷◌, Option, Some, None, map, if◌then◌else◌}
use Rattle.std.specs.Borrow.{Bor}
use Rattle.std.specs.Str.{bytes_eq}
use Rattle.bq_asm.specs.declared.mnemonic.Mnemonic.{Mnemonic}
use Rattle.bq_asm.specs.declared.table.TheConstants.{MNEMONICS}

-- the mnemonic of the first entry with this word; none if no entry has it
abbrev pub entry_with : List ℕ → List (List ℕ × Mnemonic) → Option Mnemonic
entry_with word [] = None
entry_with word (e ∷ entries) = if bytes_eq e.0 word then Some e.1 else entry_with word entries

-- the entries, each with the bytes of its word
abbrev pub by_bytes : List (Bor (List ℕ) × Mnemonic) → List (List ℕ × Mnemonic)
by_bytes entries = map (λ e. (e.0.now, e.1)) entries

-- the table of first words: each word with the mnemonic that it says
abbrev pub table : List (List ℕ × Mnemonic)
table = map (λ e. (e.0.now, e.1)) MNEMONICS

-- the mnemonic that a first word says; none if the table has no such word
abbrev pub named : List ℕ → Option Mnemonic
named word = entry_with word table
