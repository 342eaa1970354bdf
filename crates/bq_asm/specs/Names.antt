-- The first words of instructions.
use Rattle.std.specs.Prelude.{ℕ, List, ◌++◌, codes}
use Rattle.bq_insn.specs.declared.Width.{Width}
use Rattle.bq_insn.specs.declared.Width.TheVariants.{W32, W64}
use Rattle.bq_insn.specs.declared.Operation.{Operation}
use Rattle.bq_insn.specs.declared.Operation.TheVariants as op
use Rattle.bq_insn.specs.declared.Condition.{Condition}
use Rattle.bq_insn.specs.declared.Condition.TheVariants as cond
use Rattle.bq_insn.specs.declared.Order.{Order}
use Rattle.bq_insn.specs.declared.Order.TheVariants.{Little, Big, Swapped}
use Rattle.bq_insn.specs.declared.Bits.{Bits}
use Rattle.bq_insn.specs.declared.Bits.TheVariants.{B8, B16, B32, B64}
use Rattle.bq_insn.specs.declared.Size.{Size}
use Rattle.bq_insn.specs.declared.Size.TheVariants.{Byte, Half, Word, Double}
use Rattle.bq_asm.specs.declared.mnemonic.Mnemonic.{Mnemonic}
use Rattle.bq_asm.specs.declared.mnemonic.Mnemonic.TheVariants as name

-- the name of an operation
abbrev pub op_name : Operation → List ℕ
op_name op.Add = codes "add"
op_name op.Sub = codes "sub"
op_name op.Mul = codes "mul"
op_name op.Div = codes "div"
op_name op.Sdiv = codes "sdiv"
op_name op.Or = codes "or"
op_name op.And = codes "and"
op_name op.Lsh = codes "lsh"
op_name op.Rsh = codes "rsh"
op_name op.Rem = codes "mod"
op_name op.Srem = codes "smod"
op_name op.Xor = codes "xor"
op_name op.Mov = codes "mov"
op_name op.Arsh = codes "arsh"

-- the name of a branch with this condition
abbrev pub cond_name : Condition → List ℕ
cond_name cond.Equal = codes "jeq"
cond_name cond.Greater = codes "jgt"
cond_name cond.GreaterEqual = codes "jge"
cond_name cond.AnyBit = codes "jset"
cond_name cond.NotEqual = codes "jne"
cond_name cond.SignedGreater = codes "jsgt"
cond_name cond.SignedGreaterEqual = codes "jsge"
cond_name cond.Less = codes "jlt"
cond_name cond.LessEqual = codes "jle"
cond_name cond.SignedLess = codes "jslt"
cond_name cond.SignedLessEqual = codes "jsle"

-- the name of a width, as it ends a first word
abbrev pub width_name : Width → List ℕ
width_name W32 = codes "32"
width_name W64 = codes "64"

-- the name of a size, as it ends a first word
abbrev pub size_name : Size → List ℕ
size_name Byte = codes "b"
size_name Half = codes "h"
size_name Word = codes "w"
size_name Double = codes "dw"

-- the name of a byte order
abbrev pub order_name : Order → List ℕ
order_name Little = codes "le"
order_name Big = codes "be"
order_name Swapped = codes "swap"

-- the name of a number of bits, as it ends a first word
abbrev pub bits_name : Bits → List ℕ
bits_name B8 = codes "8"
bits_name B16 = codes "16"
bits_name B32 = codes "32"
bits_name B64 = codes "64"

-- the word that a mnemonic is written as
abbrev pub mnemonic_word : Mnemonic → List ℕ
mnemonic_word (name.Alu w o) = op_name o ++ width_name w
mnemonic_word (name.MovSx w b) = codes "movsx" ++ (width_name w ++ (codes "_" ++ bits_name b))
mnemonic_word (name.Neg w) = codes "neg" ++ width_name w
mnemonic_word (name.End order b) = order_name order ++ bits_name b
mnemonic_word (name.Load size) = codes "ldx" ++ size_name size
mnemonic_word (name.LoadSigned size) = codes "ldxs" ++ size_name size
mnemonic_word (name.StoreImm size) = codes "st" ++ size_name size
mnemonic_word (name.StoreReg size) = codes "stx" ++ size_name size
mnemonic_word name.Imm64 = codes "lddw"
mnemonic_word name.MapRef = codes "ldmap"
mnemonic_word name.Goto = codes "ja"
mnemonic_word name.Goto32 = codes "ja32"
mnemonic_word (name.Branch w c) = cond_name c ++ width_name w
mnemonic_word name.Call = codes "call"
mnemonic_word name.Exit = codes "exit"
