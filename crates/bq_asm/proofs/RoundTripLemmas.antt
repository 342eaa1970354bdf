-- The words of an instruction say that instruction.
use Rattle.std.proofs.Common.{◌≡◌, refl, true, false}
use Rattle.std.specs.Prelude.{Some}
use Rattle.std.proofs.lemmas.Bool.{false≢true}
use Rattle.bq_insn.specs.declared.Width.{Width}
use Rattle.bq_insn.specs.declared.Width.TheVariants.{W32, W64}
use Rattle.bq_insn.specs.declared.Operation.{Operation}
use Rattle.bq_insn.specs.declared.Operation.TheVariants as op
use Rattle.bq_insn.specs.declared.Condition.{Condition}
use Rattle.bq_insn.specs.declared.Condition.TheVariants as cond
use Rattle.bq_insn.specs.declared.Order.TheVariants.{Little, Big, Swapped}
use Rattle.bq_insn.specs.declared.Bits.TheVariants.{B8, B16, B32, B64}
use Rattle.bq_insn.specs.declared.Size.TheVariants.{Byte, Half, Word, Double}
use Rattle.bq_insn.specs.declared.Source.TheVariants.{Imm, Reg}
use Rattle.bq_insn.specs.declared.Insn.{Insn}
use Rattle.bq_insn.specs.declared.Insn.TheVariants as insn
use Rattle.bq_insn.specs.Spelling.{is_insn}
use Rattle.bq_asm.specs.declared.mnemonic.Mnemonic.TheVariants as name
use Rattle.bq_asm.specs.Names.{mnemonic_word}
use Rattle.bq_asm.specs.Named.{named}
use Rattle.bq_asm.specs.Text.{mnemonic_of, operands_of}
use Rattle.bq_asm.specs.Operands.{insn_from}

-- words and operands of an instruction make that instruction
pub insn_from-parts : (i : Insn) → insn_from (mnemonic_of i) (operands_of i) ≡ Some i
insn_from-parts (insn.Alu w o d (Imm n)) = refl
insn_from-parts (insn.Alu w o d (Reg s)) = refl
insn_from-parts (insn.Branch w c d (Imm n) off) = refl
insn_from-parts (insn.Branch w c d (Reg s) off) = refl
insn_from-parts (insn.Load size false d s off) = refl
insn_from-parts (insn.Load size true d s off) = refl
insn_from-parts i = refl

-- the first word of an arithmetic instruction or of a branch is read as that word, by cases:
named-alu : (w : Width) (o : Operation) → named (mnemonic_word (name.Alu w o)) ≡ Some (name.Alu w o)
named-alu W32 op.Add = refl
named-alu W64 op.Add = refl
named-alu W32 o = elim o as (λ x. named (mnemonic_word (name.Alu W32 x)) ≡ Some (name.Alu W32 x)) [ op.Add ↦ refl | _ ↦ refl ]
named-alu W64 o = elim o as (λ x. named (mnemonic_word (name.Alu W64 x)) ≡ Some (name.Alu W64 x)) [ op.Add ↦ refl | _ ↦ refl ]

named-branch : (w : Width) (c : Condition) → named (mnemonic_word (name.Branch w c)) ≡ Some (name.Branch w c)
named-branch W32 c = elim c as (λ x. named (mnemonic_word (name.Branch W32 x)) ≡ Some (name.Branch W32 x)) [ cond.Equal ↦ refl | _ ↦ refl ]
named-branch W64 c = elim c as (λ x. named (mnemonic_word (name.Branch W64 x)) ≡ Some (name.Branch W64 x)) [ cond.Equal ↦ refl | _ ↦ refl ]

-- the first word of an instruction in range is read as that
pub named-again : (i : Insn) → is_insn i ≡ true → named (mnemonic_word (mnemonic_of i)) ≡ Some (mnemonic_of i)
named-again (insn.Alu w o d src) h = named-alu w o
named-again (insn.Branch w c d src off) h = named-branch w c
named-again (insn.Neg W32 d) h = refl
named-again (insn.Neg W64 d) h = refl
named-again (insn.MovSx W32 B8 d s) h = refl
named-again (insn.MovSx W32 B16 d s) h = refl
named-again (insn.MovSx W64 B8 d s) h = refl
named-again (insn.MovSx W64 B16 d s) h = refl
named-again (insn.MovSx W64 B32 d s) h = refl
named-again (insn.MovSx W32 B32 d s) h = absurd (false≢true h)
named-again (insn.MovSx W32 B64 d s) h = absurd (false≢true h)
named-again (insn.MovSx W64 B64 d s) h = absurd (false≢true h)
named-again (insn.End order B8 d) h = absurd (false≢true h)
named-again (insn.End Little B16 d) h = refl
named-again (insn.End Little B32 d) h = refl
named-again (insn.End Little B64 d) h = refl
named-again (insn.End Big B16 d) h = refl
named-again (insn.End Big B32 d) h = refl
named-again (insn.End Big B64 d) h = refl
named-again (insn.End Swapped B16 d) h = refl
named-again (insn.End Swapped B32 d) h = refl
named-again (insn.End Swapped B64 d) h = refl
named-again (insn.Load Double true d s off) h = absurd (false≢true h)
named-again (insn.Load Byte true d s off) h = refl
named-again (insn.Load Half true d s off) h = refl
named-again (insn.Load Word true d s off) h = refl
named-again (insn.Load Byte false d s off) h = refl
named-again (insn.Load Half false d s off) h = refl
named-again (insn.Load Word false d s off) h = refl
named-again (insn.Load Double false d s off) h = refl
named-again (insn.StoreImm Byte d off n) h = refl
named-again (insn.StoreImm Half d off n) h = refl
named-again (insn.StoreImm Word d off n) h = refl
named-again (insn.StoreImm Double d off n) h = refl
named-again (insn.StoreReg Byte d off s) h = refl
named-again (insn.StoreReg Half d off s) h = refl
named-again (insn.StoreReg Word d off s) h = refl
named-again (insn.StoreReg Double d off s) h = refl
named-again (insn.Imm64 d v) h = refl
named-again (insn.MapRef d n) h = refl
named-again (insn.Goto off) h = refl
named-again (insn.Goto32 n) h = refl
named-again (insn.Call n) h = refl
named-again insn.Exit h = refl
