-- A listing with comments above its instructions.
use Rattle.std.specs.Prelude.{◌≡◌, ℕ, List, [], ◌∷◌, ◌++◌, ◌&&◌, ◌⊎◌, Bool, true, codes, nat_lt}
use Rattle.std.specs.List.{list_all}
use Rattle.bq_insn.specs.declared.Insn.{Insn}
use Rattle.bq_asm.specs.Text.{line_body}

-- a printed letter of ASCII
abbrev pub is_note_byte : ℕ → Bool
is_note_byte b = nat_lt 0x20 b && nat_lt b 0x7f

-- a comment of one word on a line, or nothing
abbrev pub IsNote : List ℕ → Type 0
IsNote note = (note ≡ []) ⊎ ((words : List ℕ) × (list_all is_note_byte words ≡ true) × (note ≡ codes "; " ++ (words ++ codes "\n")))

-- the line of an instruction, below a note
pub record IsNotedLine (insn : Insn) (line : List ℕ) : Type 0 where
  pub note : List ℕ
  pub is_note : IsNote note
  pub line_is : line ≡ note ++ (line_body insn ++ codes "\n")

-- the lines of the instructions, one after another
abbrev pub IsNotedListing : List Insn → List ℕ → Type 0
IsNotedListing [] text = text ≡ []
IsNotedListing (insn ∷ insns) text = (line : List ℕ) × (more : List ℕ) × IsNotedLine insn line × IsNotedListing insns more × (text ≡ line ++ more)
