-- The text that is written for a compiled program.
use Rattle.std.specs.Prelude.{◌≡◌, ℕ, List, [], ◌++◌, ◌||◌, ◌⊎◌, Bool, true, false, Option, Some, None, codes, length, String, string_bytes}
use Rattle.std.specs.Char.{is_ascii_hexdigit}
use Rattle.std.specs.List.{list_all}
use Rattle.std.specs.declared.alloc.Global.{Global}
use Rattle.bq_insn.specs.declared.Insn.{Insn}
use Rattle.bq_asm.specs.Text.{listing_text}
use Rattle.bq_object.specs.Faults.{IsObjectFault}
use Rattle.bq_object.specs.Objects.{IsObject, IsPolicyOfObject}
use Rattle.bq_import.specs.Importing.{Imports, IsImportFault}
use Rattle.bq_import.specs.Noted.{IsNotedListing}
use Rattle.bq_import.specs.declared.text.ImportSettings.{ImportSettings}
use Rattle.bq_import.specs.declared.text.ImportRefusal.{ImportRefusal}
use Rattle.bq_import.specs.declared.text.ImportRefusal.TheVariants as refusal
use Rattle.bq_policy_file.specs.HexText.{IsNoHex, SpellsBytes, is_hex_space}
use Rattle.bq_policy_file.specs.MarkLines.{head_marks_text}

-- a digit of hex, or a blank
abbrev pub is_hex_byte : ℕ → Bool
is_hex_byte b = is_ascii_hexdigit b || is_hex_space b

-- the bytes that are read if the input is no object: what it spells if all of it is hex, and otherwise the input itself
abbrev pub AreRaw : List ℕ → List ℕ → Type 0
AreRaw input bytes = ((list_all is_hex_byte input ≡ true) × SpellsBytes input bytes) ⊎ ((list_all is_hex_byte input ≡ false) × (bytes ≡ input))

-- the program that is read: the policy of an object, or otherwise the bytes of a text section
abbrev pub IsProgramBytes : List ℕ → List ℕ → Type 0
IsProgramBytes input bytes = (IsObject input × IsPolicyOfObject input bytes) ⊎ ((IsObject input → ⊥) × AreRaw input bytes)

-- why bytes are not imported; that memory runs out says nothing of them
abbrev pub IsUnimported : List ℕ → ImportRefusal → Type 0
IsUnimported bytes refusal.Hex = ⊥
IsUnimported bytes (refusal.Object fault) = ⊥
IsUnimported bytes (refusal.Import named) = IsImportFault bytes named
IsUnimported bytes refusal.OutOfMemory = Unit {0}

-- why there is no text: all of the input is hex and yet spells no bytes, it is an object without a policy, or its program is not imported
abbrev pub IsImportRefused : List ℕ → ImportRefusal → Type 0
IsImportRefused input refusal.Hex = (list_all is_hex_byte input ≡ true) × IsNoHex input
IsImportRefused input (refusal.Object fault) = IsObject input × IsObjectFault input fault
IsImportRefused input (refusal.Import named) = (bytes : List ℕ) × IsProgramBytes input bytes × IsImportFault bytes named
IsImportRefused input refusal.OutOfMemory = Unit {0}

-- the line that names the maps, in the words that were given for them
abbrev pub maps_line : Option (String Global) → List ℕ
maps_line None = []
maps_line (Some maps) = codes ";@ maps " ++ (string_bytes maps ++ codes "\n")

-- the lines that say what the program is for: its hook, its maps if there are some, and its version if it is not the first
abbrev pub settings_marks : ImportSettings → List ℕ
settings_marks s = head_marks_text s.form.hook (maps_line s.maps) s.form.version

-- the marks of what was asked for, and then the listing of what was imported for the bytes beside that many maps; no more
pub record IsTextOf (settings : ImportSettings) (bytes text : List ℕ) : Type 0 where
  pub insns : List Insn
  pub origins : List ℕ
  pub imported : Imports (length settings.form.shapes.items) bytes insns origins
  pub text_is : text ≡ settings_marks settings ++ listing_text insns

-- the marks of what was asked for, and then the listing of what was imported, which may have comments above instructions
pub record IsNotedTextOf (settings : ImportSettings) (bytes text : List ℕ) : Type 0 where
  pub insns : List Insn
  pub origins : List ℕ
  pub imported : Imports (length settings.form.shapes.items) bytes insns origins
  pub listing : List ℕ
  pub is_listing : IsNotedListing insns listing
  pub text_is : text ≡ settings_marks settings ++ listing

-- the text of an input: of an object the text of its policy, with comments; of other bytes their own text
abbrev pub IsImportedAs : ImportSettings → List ℕ → List ℕ → Type 0
IsImportedAs settings input text =
    ((policy : List ℕ) × IsObject input × IsPolicyOfObject input policy × IsNotedTextOf settings policy text)
    ⊎ ((bytes : List ℕ) × (IsObject input → ⊥) × AreRaw input bytes × IsTextOf settings bytes text)
