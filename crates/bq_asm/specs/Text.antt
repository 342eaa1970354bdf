-- The canonical text of instructions.
use Rattle.std.specs.Prelude.{ℕ, true, false, List, [], ◌∷◌, ◌++◌, ℤ, pos, negsuc, codes}
use Rattle.std.specs.List.{flat_map}
use Rattle.std.specs.Fmt.{decimal, signed_decimal}
use Rattle.bq_insn.specs.declared.Source.{Source}
use Rattle.bq_insn.specs.declared.Source.TheVariants.{Imm, Reg}
use Rattle.bq_insn.specs.declared.Insn.{Insn}
use Rattle.bq_insn.specs.declared.Insn.TheVariants.{Alu, MovSx, Neg, End, Load, StoreImm, StoreReg, Imm64, MapRef, Goto, Goto32, Branch, Call, Exit}
use Rattle.bq_asm.specs.declared.mnemonic.Mnemonic.{Mnemonic}
use Rattle.bq_asm.specs.declared.mnemonic.Mnemonic.TheVariants as name
use Rattle.bq_asm.specs.declared.operand.Operand.{Operand}
use Rattle.bq_asm.specs.declared.operand.Operands.{Operands}
use Rattle.bq_asm.specs.declared.operand.Operands.TheVariants.{Zero, One, Two, Three}
use Rattle.bq_asm.specs.declared.operand.Operand.TheVariants.{Register, Number, Wide, Memory, Near, Far}
use Rattle.bq_asm.specs.Names.{mnemonic_word}

-- a number that always has its sign, a `+` or a `-`
abbrev pub signed_text : ℤ → List ℕ
signed_text (pos n) = codes "+" ++ decimal n
signed_text (negsuc n) = signed_decimal (negsuc n)

-- the text of an operand
abbrev pub operand_text : Operand → List ℕ
operand_text (Register r) = codes "r" ++ decimal r
operand_text (Number z) = signed_decimal z
operand_text (Wide n) = decimal n
operand_text (Memory base offset) = codes "[r" ++ (decimal base ++ (signed_text offset ++ codes "]"))
operand_text (Near z) = signed_text z
operand_text (Far z) = signed_text z

-- the operand that writes a second operand: a number or a register
abbrev pub source_operand : Source → Operand
source_operand (Imm n) = Number n
source_operand (Reg r) = Register r

-- the mnemonic of an instruction
abbrev pub mnemonic_of : Insn → Mnemonic
mnemonic_of (Alu w o d src) = name.Alu w o
mnemonic_of (MovSx w b d s) = name.MovSx w b
mnemonic_of (Neg w d) = name.Neg w
mnemonic_of (End order b d) = name.End order b
mnemonic_of (Load size false d s off) = name.Load size
mnemonic_of (Load size true d s off) = name.LoadSigned size
mnemonic_of (StoreImm size d off n) = name.StoreImm size
mnemonic_of (StoreReg size d off s) = name.StoreReg size
mnemonic_of (Imm64 d v) = name.Imm64
mnemonic_of (MapRef d i) = name.MapRef
mnemonic_of (Goto off) = name.Goto
mnemonic_of (Goto32 n) = name.Goto32
mnemonic_of (Branch w c d src off) = name.Branch w c
mnemonic_of (Call helper) = name.Call
mnemonic_of Exit = name.Exit

-- the operands of an instruction, as its line lists them
abbrev pub operands_of : Insn → List Operand
operands_of (Alu w o d src) = Register d ∷ source_operand src ∷ []
operands_of (MovSx w b d s) = Register d ∷ Register s ∷ []
operands_of (Neg w d) = Register d ∷ []
operands_of (End order b d) = Register d ∷ []
operands_of (Load size signed d s off) = Register d ∷ Memory s off ∷ []
operands_of (StoreImm size d off n) = Memory d off ∷ Number n ∷ []
operands_of (StoreReg size d off s) = Memory d off ∷ Register s ∷ []
operands_of (Imm64 d v) = Register d ∷ Wide v ∷ []
operands_of (MapRef d i) = Register d ∷ Number i ∷ []
operands_of (Goto off) = Near off ∷ []
operands_of (Goto32 n) = Far n ∷ []
operands_of (Branch w c d src off) = Register d ∷ source_operand src ∷ Near off ∷ []
operands_of (Call helper) = Number helper ∷ []
operands_of Exit = []

-- the operands after the first, each with a comma and a space before it
abbrev pub after_first : List Operand → List ℕ
after_first [] = []
after_first (o ∷ rest) = codes ", " ++ (operand_text o ++ after_first rest)

-- the operands of a line: a space before the first, a comma and a space before each other
abbrev pub operands_text : List Operand → List ℕ
operands_text [] = []
operands_text (o ∷ rest) = codes " " ++ (operand_text o ++ after_first rest)

-- the line of an instruction, without its end
abbrev pub line_body : Insn → List ℕ
line_body insn = mnemonic_word (mnemonic_of insn) ++ operands_text (operands_of insn)

-- the line of an instruction, with its line feed
abbrev pub text_of_instruction : Insn → List ℕ
text_of_instruction insn = mnemonic_word (mnemonic_of insn) ++ (operands_text (operands_of insn) ++ codes "\n")

-- the canonical text of a program
abbrev pub listing_text : List Insn → List ℕ
listing_text insns = flat_map text_of_instruction insns

-- the operands as a list
abbrev pub list_of : Operands → List Operand
list_of Zero = []
list_of (One a) = a ∷ []
list_of (Two a b) = a ∷ b ∷ []
list_of (Three a b c) = a ∷ b ∷ c ∷ []
