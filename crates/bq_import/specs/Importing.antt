-- What is imported for bytes, and why they are not.
use Rattle.std.specs.Prelude.{◌≡◌, ℕ, ◌+◌, ◌*◌, ◌/◌, ◌-◌, ◌^◌, ◌⊎◌, Bool, true, false, ◌||◌, nat_le, nat_lt, List, ◌++◌, ◌∷◌, slice_index_or}
use Rattle.std.specs.List.{list_any}
use Rattle.bq_insn.specs.declared.Insn.{Insn}
use Rattle.bq_insn.specs.declared.Insn.TheVariants.{Imm64}
use Rattle.bq_insn.specs.declared.fault.DecodeCause.{DecodeCause}
use Rattle.bq_insn.specs.declared.fault.DecodeFault.TheVariants as decode
use Rattle.bq_insn.specs.Faults.{IsDecodeFault}
use Rattle.bq_insn.specs.Slots.{spread}
use Rattle.bq_insn.specs.Spelling.{spelling, slot_count, is_well_formed}
use Rattle.bq_insn.specs.Laws.{AllFit}
use Rattle.bq_import.specs.declared.fault.Disorder.{Disorder}
use Rattle.bq_import.specs.declared.fault.Disorder.TheVariants.{OutOfMemory}
use Rattle.bq_import.specs.declared.reason.SlotReason.{SlotReason}
use Rattle.bq_import.specs.declared.reason.SlotReason.TheVariants.{Address}
use Rattle.bq_import.specs.declared.section.ImportFault.{ImportFault}
use Rattle.bq_import.specs.declared.section.ImportFault.TheVariants.{At, Order}
use Rattle.bq_import.specs.Copies.{IsCopy}
use Rattle.bq_import.specs.Faults.{IsDisorder}
use Rattle.bq_import.specs.Keeping.{AllReached}
use Rattle.bq_import.specs.Reasons.{import_reason_of}

-- the bytes spell this program
pub record SpellsProgram (bytes : List ℕ) (program : List Insn) : Type 0 where
  pub spelled : bytes ≡ spelling program
  pub well_formed : is_well_formed program ≡ true
  pub numbers : AllFit program

-- a number of 32 bits with a sign, as 64 bits
abbrev pub is_short : ℕ → Bool
is_short value = nat_lt value (2 ^ 31) || nat_le (2 ^ 64 - 2 ^ 31) value

-- a wide number that a move could load: the address of something, which a linker fills in
abbrev pub is_address : Insn → Bool
is_address (Imm64 dst value) = is_short value
is_address insn = false

-- the first address of the program is at the slot
pub record IsFirstAddress (program : List Insn) (slot : ℕ) : Type 0 where
  pub before : List Insn
  pub insn : Insn
  pub rest : List Insn
  pub program_is : program ≡ before ++ insn ∷ rest
  pub slot_is : slot ≡ slot_count before
  pub address : is_address insn ≡ true
  pub first : list_any is_address before ≡ false

-- the bytes spell a program without addresses; the instructions are a copy of it and a program too, and control comes to each of them
pub record Imports (maps : ℕ) (bytes : List ℕ) (insns : List Insn) (origins : List ℕ) : Type 0 where
  pub program : List Insn
  pub spells : SpellsProgram bytes program
  pub plain : list_any is_address program ≡ false
  pub copy : IsCopy maps (spread program) (spread insns) origins
  pub well_formed : is_well_formed insns ≡ true
  pub numbers : AllFit insns
  pub reached : AllReached (spread insns)

-- a byte of a slot; 0 past the end
abbrev pub byte_of_slot : List ℕ → ℕ → ℕ → ℕ
byte_of_slot bytes slot offset = slice_index_or bytes (slot * 8 + offset) 0

-- the bytes are no program, by a cause at the slot; the reason follows from the cause, the opcode and the source field there
pub record IsNoProgram (bytes : List ℕ) (slot : ℕ) (reason : SlotReason) : Type 0 where
  pub cause : DecodeCause
  pub fault : IsDecodeFault bytes (decode.At slot cause)
  pub reason_is : reason ≡ import_reason_of cause (byte_of_slot bytes slot 0) (byte_of_slot bytes slot 1 / 16)

-- the bytes spell a program whose first address is at the slot
pub record HasAddress (bytes : List ℕ) (slot : ℕ) : Type 0 where
  pub program : List Insn
  pub spells : SpellsProgram bytes program
  pub first : IsFirstAddress program slot

-- the bytes spell a program without addresses, and this is wrong with it
pub record IsInDisorder (bytes : List ℕ) (disorder : Disorder) : Type 0 where
  pub program : List Insn
  pub spells : SpellsProgram bytes program
  pub plain : list_any is_address program ≡ false
  pub wrong : IsDisorder (spread program) disorder

-- why bytes are not imported; if memory runs out, they may be any bytes
abbrev pub IsImportFault : List ℕ → ImportFault → Type 0
IsImportFault bytes (At slot reason) = IsNoProgram bytes slot reason ⊎ ((reason ≡ Address) × HasAddress bytes slot)
IsImportFault bytes (Order OutOfMemory) = Unit {0}
IsImportFault bytes (Order disorder) = IsInDisorder bytes disorder
