-- The words that an instruction is listed as say that instruction.
use Rattle.std.proofs.Common.{◌≡◌, ℕ, ◌≤◌, List, [], ◌∷◌, map, refl, ap, ◌∙◌, Bool, true, false}
use Rattle.std.specs.Prelude.{Option, Ok, ℤ, ◌&&◌}
use Rattle.std.specs.List.{AllByRecursion}
use Rattle.std.specs.Option.{ok_or}
use Rattle.std.proofs.lemmas.Bool.{and_parts, leb-true, false≢true}
use Rattle.bq_insn.specs.declared.Width.{Width}
use Rattle.bq_insn.specs.declared.Width.TheVariants.{W32, W64}
use Rattle.bq_insn.specs.declared.Order.{Order}
use Rattle.bq_insn.specs.declared.Bits.{Bits}
use Rattle.bq_insn.specs.declared.Bits.TheVariants.{B8, B16, B32, B64}
use Rattle.bq_insn.specs.declared.Size.{Size}
use Rattle.bq_insn.specs.declared.Size.TheVariants.{Byte, Half, Word, Double}
use Rattle.bq_insn.specs.declared.Source.{Source}
use Rattle.bq_insn.specs.declared.Source.TheVariants.{Imm, Reg}
use Rattle.bq_insn.specs.declared.Insn.{Insn}
use Rattle.bq_insn.specs.declared.Insn.TheVariants as insn
use Rattle.bq_insn.specs.Spelling.{is_insn, is_register, is_source}
use Rattle.bq_insn.specs.Laws.{Fits, SourceFits}
use Rattle.bq_asm.specs.declared.fault.AssemblyCause.TheVariants as cause
use Rattle.bq_asm.specs.declared.operand.Operand.{Operand}
use Rattle.bq_asm.specs.declared.operand.Operand.TheVariants as operand
use Rattle.bq_asm.specs.declared.operand_kind.OperandKind.{OperandKind}
use Rattle.bq_asm.specs.declared.operand_kind.OperandKind.TheVariants as kind
use Rattle.bq_asm.specs.Names.{mnemonic_word}
use Rattle.bq_asm.specs.Operands.{operand_of, each_operand, with_next, kind_list, kinds_of, made, instruction_of, instruction_from}
use Rattle.bq_asm.specs.Text.{operand_text, source_operand, mnemonic_of, operands_of}
use Rattle.bq_asm.proofs.OperandLemmas.{register_again, source_register_again, number_again, source_number_again, wide_again, near_again, far_again, memory_again}
use Rattle.bq_asm.proofs.WellFormedLemmas.{IsInRange}
use Rattle.bq_asm.proofs.RoundTripLemmas.{insn_from-parts, named-again}

-- which operands stand in which places
has_kind : OperandKind → Operand → Bool
has_kind kind.Register (operand.Register r) = true
has_kind kind.Source (operand.Register r) = true
has_kind kind.Source (operand.Number z) = true
has_kind kind.Number (operand.Number z) = true
has_kind kind.Wide (operand.Wide n) = true
has_kind kind.Memory (operand.Memory r z) = true
has_kind kind.Near (operand.Near z) = true
has_kind kind.Far (operand.Far z) = true
has_kind k o = false

-- as many operands as places, each of them in a place where it may stand
have_kinds : List OperandKind → List Operand → Bool
have_kinds [] [] = true
have_kinds (k ∷ ks) (o ∷ os) = has_kind k o && have_kinds ks os
have_kinds ks os = false

-- an operand's text is read as that operand
again : (k : OperandKind) (o : Operand) (d : Option ℤ) → has_kind k o ≡ true → IsInRange o → operand_of k (operand_text o) d ≡ Ok o
unfolding has_kind
again kind.Register (operand.Register r) d h g = register_again r d g
again kind.Source (operand.Register r) d h g = source_register_again r d g
again kind.Source (operand.Number z) d h g = source_number_again z d g
again kind.Number (operand.Number z) d h g = number_again z d g
again kind.Wide (operand.Wide n) d h g = wide_again n d g
again kind.Memory (operand.Memory r z) d h g = memory_again r z d g.0 g.1
again kind.Near (operand.Near z) d h g = near_again z d g
again kind.Far (operand.Far z) d h g = far_again z d g
again k o d h g = absurd (false≢true h)

-- the texts of operands in their places are read as those operands
each_again : (ks : List OperandKind) (os : List Operand) (d : Option ℤ)
    → have_kinds ks os ≡ true → AllByRecursion IsInRange os → each_operand ks (map operand_text os) d ≡ Ok os
unfolding have_kinds
each_again [] [] d h g = refl
each_again [] (o ∷ os) d h g = absurd (false≢true h)
each_again (k ∷ ks) [] d h g = absurd (false≢true h)
each_again (k ∷ ks) (o ∷ os) d h g =
    let parts = and_parts (has_kind k o) (have_kinds ks os) h in
    λ n. with_next (again k o d parts.0 g.0 n) (each_again ks os d parts.1 g.1 n)

-- the operands of an instruction stand in the places that its first word has
of_kinds : (i : Insn) → have_kinds (kind_list (kinds_of (mnemonic_of i))) (operands_of i) ≡ true
unfolding has_kind have_kinds
of_kinds (insn.Alu w o d (Imm n)) = refl
of_kinds (insn.Alu w o d (Reg r)) = refl
of_kinds (insn.Branch w c d (Imm n) off) = refl
of_kinds (insn.Branch w c d (Reg r) off) = refl
of_kinds (insn.Load size true d s off) = refl
of_kinds (insn.Load size false d s off) = refl
of_kinds i = refl

-- a register's number that passes the test is at most 10
in_range : (r : ℕ) → is_register r ≡ true → r ≤ 10
in_range r h = leb-true r 10 h

-- the registers of an instruction
record Two (d s : ℕ) : Type 0 where
  first : d ≤ 10
  second : s ≤ 10

-- an instruction in range has registers up to 10, by cases:
both : (d s : ℕ) → (is_register d && is_register s) ≡ true → Two d s
both d s h = let parts = and_parts (is_register d) (is_register s) h in record { first = in_range d parts.0; second = in_range s parts.1 }

extended : (w : Width) (b : Bits) (d s : ℕ) → is_insn (insn.MovSx w b d s) ≡ true → Two d s
extended w B8 d s h = both d s h
extended w B16 d s h = both d s h
extended W64 B32 d s h = both d s h
extended W32 B32 d s h = absurd (false≢true h)
extended w B64 d s h = absurd (false≢true h)

ordered : (order : Order) (b : Bits) (d : ℕ) → is_insn (insn.End order b d) ≡ true → d ≤ 10
ordered order B8 d h = absurd (false≢true h)
ordered order B16 d h = in_range d h
ordered order B32 d h = in_range d h
ordered order B64 d h = in_range d h

loaded : (size : Size) (signed : Bool) (d s : ℕ) (off : ℤ) → is_insn (insn.Load size signed d s off) ≡ true → Two d s
loaded Double true d s off h = absurd (false≢true h)
loaded Byte true d s off h = both d s h
loaded Half true d s off h = both d s h
loaded Word true d s off h = both d s h
loaded Byte false d s off h = both d s h
loaded Half false d s off h = both d s h
loaded Word false d s off h = both d s h
loaded Double false d s off h = both d s h

-- a second operand in range is written as an operand in range
source_good : (src : Source) → is_source src ≡ true → SourceFits src → IsInRange (source_operand src)
source_good (Imm n) h k = k
source_good (Reg r) h k = in_range r h

-- the operands of an instruction in range are in range
pub operands_good : (i : Insn) → is_insn i ≡ true → Fits i → AllByRecursion IsInRange (operands_of i)
operands_good (insn.Alu w o d src) h k =
    let parts = and_parts (is_register d) (is_source src) h in (in_range d parts.0, (source_good src parts.1 k, tt))
operands_good (insn.MovSx w b d s) h k = let two = extended w b d s h in (two.first, (two.second, tt))
operands_good (insn.Neg w d) h k = (in_range d h, tt)
operands_good (insn.End order b d) h k = (ordered order b d h, tt)
operands_good (insn.Load size signed d s off) h k = let two = loaded size signed d s off h in (two.first, ((two.second, k), tt))
operands_good (insn.StoreImm size d off n) h k = ((in_range d h, k.0), (k.1, tt))
operands_good (insn.StoreReg size d off s) h k = let two = both d s h in ((two.first, k), (two.second, tt))
operands_good (insn.Imm64 d v) h k = (in_range d h, (k, tt))
operands_good (insn.MapRef d n) h k = (in_range d h, (k, tt))
operands_good (insn.Goto off) h k = (k, tt)
operands_good (insn.Goto32 n) h k = (k, tt)
operands_good (insn.Branch w c d src off) h k =
    let parts = and_parts (is_register d) (is_source src) h in (in_range d parts.0, (source_good src parts.1 k.0, (k.1, tt)))
operands_good (insn.Call n) h k = (k, tt)
operands_good insn.Exit h k = tt

-- what an instruction is listed as says that instruction, whatever labels there are
pub listed_again : (i : Insn) (d : Option ℤ) → is_insn i ≡ true → Fits i
    → instruction_of (mnemonic_word (mnemonic_of i)) (map operand_text (operands_of i)) d ≡ Ok i
listed_again i d h k =
    ap (λ m. instruction_from m (map operand_text (operands_of i)) d) (named-again i h)
    ∙ ap (made (mnemonic_of i)) (each_again (kind_list (kinds_of (mnemonic_of i))) (operands_of i) d (of_kinds i) (operands_good i h k))
    ∙ ap (λ o. ok_or o cause.Word) (insn_from-parts i)
