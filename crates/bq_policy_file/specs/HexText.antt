-- Bytes as a text of hex.
use Rattle.std.specs.Prelude.{◌≡◌, ℕ, Bool, ◌||◌, ◌==◌, not, List, filter, Ok, Err}
use Rattle.hex.specs.declared.error.FromHexError.{FromHexError}
use Rattle.hex.specs.Hex.{decode_of}

-- a space, a tab, a carriage return or a line feed
abbrev pub is_hex_space : ℕ → Bool
is_hex_space b = (b == 32) || ((b == 9) || ((b == 13) || (b == 10)))

-- a text without its blanks
abbrev pub digits_in : List ℕ → List ℕ
digits_in text = filter (λ b. not (is_hex_space b)) text

-- the text is hex, and spells these bytes
abbrev pub SpellsBytes : List ℕ → List ℕ → Type 0
SpellsBytes text bytes = decode_of (digits_in text) ≡ Ok bytes

-- the text is no hex
abbrev pub IsNoHex : List ℕ → Type 0
IsNoHex text = (error : FromHexError) × (decode_of (digits_in text) ≡ Err error)
