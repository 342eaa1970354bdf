-- The operands that words write, and the instruction that they make.
use Rattle.std.specs.Prelude.{ℕ, ◌-◌, Bool, true, false, ◌&&◌, ◌||◌, ◌==◌, nat_le, List, [], ◌∷◌, length, take, drop, slice_index, Option, Some, None, Result, Ok, Err, option_map, if◌then◌else◌, ℤ, pos, position, map}
use Rattle.std.specs.Borrow.{Bor}
use Rattle.std.specs.List.{list_all}
use Rattle.bq_insn.specs.declared.Source.TheVariants.{Imm, Reg}
use Rattle.bq_insn.specs.declared.Insn.{Insn}
use Rattle.bq_insn.specs.declared.Insn.TheVariants as insn
use Rattle.bq_asm.specs.declared.fault.AssemblyCause.{AssemblyCause}
use Rattle.bq_asm.specs.declared.fault.AssemblyCause.TheVariants as cause
use Rattle.bq_asm.specs.declared.mnemonic.Mnemonic.{Mnemonic}
use Rattle.bq_asm.specs.declared.mnemonic.Mnemonic.TheVariants as name
use Rattle.bq_asm.specs.declared.operand.Operand.{Operand}
use Rattle.bq_asm.specs.declared.operand.Operand.TheVariants as operand
use Rattle.bq_asm.specs.declared.operand.Operands.{Operands}
use Rattle.bq_asm.specs.declared.operand.Operands.TheVariants.{Zero, One, Two, Three}
use Rattle.bq_asm.specs.declared.operand_kind.OperandKind.{OperandKind}
use Rattle.bq_asm.specs.declared.operand_kind.OperandKind.TheVariants as kind
use Rattle.bq_asm.specs.declared.instruction.Kinds.{Kinds}
use Rattle.bq_asm.specs.declared.instruction.Kinds.TheVariants as kinds
use Rattle.bq_asm.specs.Named.{named}
use Rattle.std.specs.Option.{ok_or}
use Rattle.bq_asm.specs.Numbers.{imm_of, offset_of, distance_in_word, wide_of, register_named, begins_number}

-- the operand in a number's place, or a cause: Number if the word begins as a number, else Word
abbrev pub number_place : Option Operand → List ℕ → Result Operand AssemblyCause
number_place (Some o) word = Ok o
number_place None word = if begins_number word then Err cause.Number else Err cause.Word

-- the operand in a register's place, or Word if the word names no register
abbrev pub register_place : Option ℕ → Result Operand AssemblyCause
register_place (Some r) = Ok (operand.Register r)
register_place None = Err cause.Word

-- the operand in a second operand's place: a register or a number, or why the word is neither
abbrev pub source_place : Option ℕ → List ℕ → Result Operand AssemblyCause
source_place (Some r) word = Ok (operand.Register r)
source_place None word = number_place (option_map (λ z. operand.Number z) (imm_of word)) word

-- a `+` or a `-`
abbrev pub is_sign : ℕ → Bool
is_sign b = (b == 43) || (b == 45)

-- what a word has between its brackets; none if it is not in brackets
abbrev pub inside : List ℕ → Option (List ℕ)
inside word =
    if nat_le 2 (length word) && ((slice_index word 0 == 91) && (slice_index word (length word - 1) == 93)) then Some (take (length word - 2) (drop 1 word)) else None

-- the place in memory of a register and the offset that follows it; without an offset it is 0
abbrev pub based : Option ℕ → List ℕ → Result Operand AssemblyCause
based None rest = Err cause.Word
based (Some r) rest =
    if length rest == 0 then Ok (operand.Memory r (pos 0)) else number_place (option_map (λ z. operand.Memory r z) (offset_of rest)) rest

-- the place in memory that is written inside the brackets, cut into register and offset at the first sign
abbrev pub cut_at : Option ℕ → List ℕ → Result Operand AssemblyCause
cut_at None inner = based (register_named inner) []
cut_at (Some i) inner = based (register_named (take i inner)) (drop i inner)

-- the operand in a memory place: a register and an offset in brackets
abbrev pub memory_place : Option (List ℕ) → Result Operand AssemblyCause
memory_place None = Err cause.Word
memory_place (Some inner) = cut_at (position is_sign inner) inner

-- a letter or `_`
abbrev pub is_letter : ℕ → Bool
is_letter b = (nat_le 65 b && nat_le b 90) || ((nat_le 97 b && nat_le b 122) || (b == 95))

-- a letter, a digit or `_`
abbrev pub is_label_byte : ℕ → Bool
is_label_byte b = is_letter b || (nat_le 48 b && nat_le b 57)

-- whether a word is the name of a label: a letter or `_`, then up to 31 letters, digits or `_`
abbrev pub is_label : List ℕ → Bool
is_label word = nat_le 1 (length word) && (nat_le (length word) 32 && (is_letter (slice_index word 0) && list_all is_label_byte word))

-- the distance to a label, or LabelMissing if it is not known
abbrev pub label_place : Option Operand → Result Operand AssemblyCause
label_place None = Err cause.LabelMissing
label_place (Some o) = Ok o

-- the operand of this kind that a word writes; a label in the place of a target stands for `distance`
abbrev pub operand_of : OperandKind → List ℕ → Option ℤ → Result Operand AssemblyCause
operand_of kind.Register word distance = register_place (register_named word)
operand_of kind.Source word distance = source_place (register_named word) word
operand_of kind.Number word distance = number_place (option_map (λ z. operand.Number z) (imm_of word)) word
operand_of kind.Wide word distance = number_place (option_map (λ n. operand.Wide n) (wide_of word)) word
operand_of kind.Memory word distance = memory_place (inside word)
operand_of kind.Near word distance =
    if is_label word then label_place (option_map (λ z. operand.Near z) distance) else number_place (option_map (λ z. operand.Near z) (offset_of word)) word
operand_of kind.Far word distance =
    if is_label word then label_place (option_map (λ z. operand.Far z) distance) else number_place (option_map (λ z. operand.Far z) (distance_in_word word)) word

-- the kinds of operands that follow a first word
abbrev pub kinds_of : Mnemonic → Kinds
kinds_of (name.Alu w o) = kinds.Two kind.Register kind.Source
kinds_of (name.MovSx w b) = kinds.Two kind.Register kind.Register
kinds_of (name.Neg w) = kinds.One kind.Register
kinds_of (name.End order b) = kinds.One kind.Register
kinds_of (name.Load size) = kinds.Two kind.Register kind.Memory
kinds_of (name.LoadSigned size) = kinds.Two kind.Register kind.Memory
kinds_of (name.StoreImm size) = kinds.Two kind.Memory kind.Number
kinds_of (name.StoreReg size) = kinds.Two kind.Memory kind.Register
kinds_of name.Imm64 = kinds.Two kind.Register kind.Wide
kinds_of name.MapRef = kinds.Two kind.Register kind.Number
kinds_of name.Goto = kinds.One kind.Near
kinds_of name.Goto32 = kinds.One kind.Far
kinds_of (name.Branch w c) = kinds.Three kind.Register kind.Source kind.Near
kinds_of name.Call = kinds.One kind.Number
kinds_of name.Exit = kinds.Zero

-- the lesser of two causes: Word before Number before any other
abbrev pub lesser : AssemblyCause → AssemblyCause → AssemblyCause
lesser cause.Word c = cause.Word
lesser c cause.Word = cause.Word
lesser cause.Number c = cause.Number
lesser c cause.Number = cause.Number
lesser c d = c

-- an operand and those after it as one list, or the least cause among them
abbrev pub with_next : Result Operand AssemblyCause → Result (List Operand) AssemblyCause → Result (List Operand) AssemblyCause
with_next (Ok o) (Ok rest) = Ok (o ∷ rest)
with_next (Ok o) (Err c) = Err c
with_next (Err c) (Ok rest) = Err c
with_next (Err c) (Err d) = Err (lesser c d)

-- two operands as a list
abbrev pub both_operands : Result (Operand × Operand) AssemblyCause → Result (List Operand) AssemblyCause
both_operands (Err c) = Err c
both_operands (Ok p) = Ok (p.0 ∷ p.1 ∷ [])

-- the operands that words write, or the least cause among them
abbrev pub each_operand : List OperandKind → List (List ℕ) → Option ℤ → Result (List Operand) AssemblyCause
each_operand [] [] distance = Ok []
each_operand (k ∷ ks) (w ∷ ws) distance = with_next (operand_of k w distance) (each_operand ks ws distance)
each_operand ks ws distance = Err cause.Word

-- the kinds of operands as a list
abbrev pub kind_list : Kinds → List OperandKind
kind_list kinds.Zero = []
kind_list (kinds.One a) = a ∷ []
kind_list (kinds.Two a b) = a ∷ b ∷ []
kind_list (kinds.Three a b c) = a ∷ b ∷ c ∷ []

-- the operands that follow, as a list
abbrev pub listed_operands : Result Operands AssemblyCause → Result (List Operand) AssemblyCause
listed_operands (Err c) = Err c
listed_operands (Ok Zero) = Ok []
listed_operands (Ok (One a)) = Ok (a ∷ [])
listed_operands (Ok (Two a b)) = Ok (a ∷ b ∷ [])
listed_operands (Ok (Three a b c)) = Ok (a ∷ b ∷ c ∷ [])

-- the instruction of a first word and operands; none if they do not fit
abbrev pub insn_from : Mnemonic → List Operand → Option Insn
insn_from (name.Alu w o) (operand.Register d ∷ operand.Number n ∷ []) = Some (insn.Alu w o d (Imm n))
insn_from (name.Alu w o) (operand.Register d ∷ operand.Register s ∷ []) = Some (insn.Alu w o d (Reg s))
insn_from (name.MovSx w b) (operand.Register d ∷ operand.Register s ∷ []) = Some (insn.MovSx w b d s)
insn_from (name.Neg w) (operand.Register d ∷ []) = Some (insn.Neg w d)
insn_from (name.End order b) (operand.Register d ∷ []) = Some (insn.End order b d)
insn_from (name.Load size) (operand.Register d ∷ operand.Memory s off ∷ []) = Some (insn.Load size false d s off)
insn_from (name.LoadSigned size) (operand.Register d ∷ operand.Memory s off ∷ []) = Some (insn.Load size true d s off)
insn_from (name.StoreImm size) (operand.Memory d off ∷ operand.Number n ∷ []) = Some (insn.StoreImm size d off n)
insn_from (name.StoreReg size) (operand.Memory d off ∷ operand.Register s ∷ []) = Some (insn.StoreReg size d off s)
insn_from name.Imm64 (operand.Register d ∷ operand.Wide v ∷ []) = Some (insn.Imm64 d v)
insn_from name.MapRef (operand.Register d ∷ operand.Number n ∷ []) = Some (insn.MapRef d n)
insn_from name.Goto (operand.Near z ∷ []) = Some (insn.Goto z)
insn_from name.Goto32 (operand.Far z ∷ []) = Some (insn.Goto32 z)
insn_from (name.Branch w c) (operand.Register d ∷ operand.Number n ∷ operand.Near z ∷ []) = Some (insn.Branch w c d (Imm n) z)
insn_from (name.Branch w c) (operand.Register d ∷ operand.Register s ∷ operand.Near z ∷ []) = Some (insn.Branch w c d (Reg s) z)
insn_from name.Call (operand.Number n ∷ []) = Some (insn.Call n)
insn_from name.Exit [] = Some insn.Exit
insn_from m operands = None

-- the instruction of a mnemonic and the operands that were read, or the cause why they make no instruction
abbrev pub made : Mnemonic → Result (List Operand) AssemblyCause → Result Insn AssemblyCause
made m (Err c) = Err c
made m (Ok operands) = ok_or (insn_from m operands) cause.Word

-- what an optional mnemonic and the words after it say, or the least cause; without a mnemonic the cause is Word
abbrev pub instruction_from : Option Mnemonic → List (List ℕ) → Option ℤ → Result Insn AssemblyCause
instruction_from None words distance = Err cause.Word
instruction_from (Some m) words distance = made m (each_operand (kind_list (kinds_of m)) words distance)

-- the instruction that a first word and the words after it say, or the least cause why they say none
abbrev pub instruction_of : List ℕ → List (List ℕ) → Option ℤ → Result Insn AssemblyCause
instruction_of first words distance = instruction_from (named first) words distance

-- the bytes of each word
abbrev pub word_texts : List (Bor (List ℕ)) → List (List ℕ)
word_texts words = map (λ w. w.now) words
