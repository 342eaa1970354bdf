-- Laws of the spelling and of the table (RFC 9669, sections 3 to 5): bytes spell at most one instruction or program,
-- and an opcode has at most one form.
use Rattle.std.specs.Prelude.{◌≡◌, ◌↔◌, ℕ, ◌^◌, ◌<◌, true, List, [], ◌∷◌, ◌++◌, Some, FitsSigned}
use Rattle.std.specs.List.{list_all}
use Rattle.std.specs.Int.{w16, w32}
use Rattle.bq_insn.specs.declared.Source.{Source}
use Rattle.bq_insn.specs.declared.Source.TheVariants.{Imm, Reg}
use Rattle.bq_insn.specs.declared.Insn.{Insn}
use Rattle.bq_insn.specs.declared.Insn.TheVariants.{Alu, Load, StoreImm, StoreReg, Imm64, MapRef, Goto, Goto32, Branch, Call}
use Rattle.bq_insn.specs.declared.form.Form.{Form}
use Rattle.bq_insn.specs.Table.{opcode_of, is_form, form_of}
use Rattle.bq_insn.specs.Spelling.{is_insn, insn_bytes, spelling}

-- an immediate fits 32 bits with a sign
abbrev pub SourceFits : Source → Type 0
SourceFits (Imm n) = FitsSigned w32 n
SourceFits (Reg r) = Unit {0}

-- the numbers of an instruction fit the types of its fields
abbrev pub Fits : Insn → Type 0
Fits (Alu w o d src) = SourceFits src
Fits (Load size signed d s off) = FitsSigned w16 off
Fits (StoreImm size d off n) = FitsSigned w16 off × FitsSigned w32 n
Fits (StoreReg size d off s) = FitsSigned w16 off
Fits (Imm64 d v) = v < 2 ^ 64
Fits (MapRef d n) = FitsSigned w32 n
Fits (Goto off) = FitsSigned w16 off
Fits (Goto32 n) = FitsSigned w32 n
Fits (Branch w c d src off) = SourceFits src × FitsSigned w16 off
Fits (Call n) = FitsSigned w32 n
Fits insn = Unit {0}

-- if bytes begin with the spellings of two instructions, both are the same instruction
abbrev pub OneSpelling : Type 0
OneSpelling = (a b : Insn) (x y : List ℕ) → is_insn a ≡ true → is_insn b ≡ true → Fits a → Fits b → insn_bytes a ++ x ≡ insn_bytes b ++ y → a ≡ b

-- all numbers of a program fit the types of their fields
abbrev pub AllFit : List Insn → Type 0
AllFit [] = Unit {0}
AllFit (i ∷ insns) = Fits i × AllFit insns

-- bytes spell at most one program, so encoding a program and decoding the bytes gives the program back
abbrev pub OneProgram : Type 0
OneProgram = (a b : List Insn) → list_all is_insn a ≡ true → list_all is_insn b ≡ true → AllFit a → AllFit b → spelling a ≡ spelling b → a ≡ b

-- an opcode has a form exactly when it is the opcode of that form and the form is in the table
abbrev pub OneTable : Type 0
OneTable = (n : ℕ) (f : Form) → n < 2 ^ 8 → (form_of n ≡ Some f) ↔ ((n ≡ opcode_of f) × (is_form f ≡ true))
