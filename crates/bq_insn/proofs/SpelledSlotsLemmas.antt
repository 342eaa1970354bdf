-- What an instruction's slots are read as.
use Rattle.std.proofs.Common.{◌≡◌, ℕ, ◌+◌, ◌*◌, ◌/◌, ◌%◌, ◌^◌, Bool, true, false, refl, ap, ◌∙◌, List, [], ◌∷◌, ℤ, arith}
use Rattle.std.specs.Prelude.{Option, Some, option_map, FitsSigned}
use Rattle.std.specs.Int.{w16, w32}
use Rattle.std.proofs.lemmas.Int.{to_z-of_z}
use Rattle.std.proofs.lemmas.Bool.{false≢true}
use Rattle.bq_insn.specs.declared.Width.{Width}
use Rattle.bq_insn.specs.declared.Width.TheVariants.{W32, W64}
use Rattle.bq_insn.specs.declared.Operation.{Operation}
use Rattle.bq_insn.specs.declared.Operation.TheVariants as op
use Rattle.bq_insn.specs.declared.Condition.{Condition}
use Rattle.bq_insn.specs.declared.Order.TheVariants.{Little, Big, Swapped}
use Rattle.bq_insn.specs.declared.Bits.TheVariants.{B8, B16, B32, B64}
use Rattle.bq_insn.specs.declared.Size.TheVariants.{Byte, Half, Word, Double}
use Rattle.bq_insn.specs.declared.Source.TheVariants.{Imm, Reg}
use Rattle.bq_insn.specs.declared.Insn.{Insn}
use Rattle.bq_insn.specs.declared.Insn.TheVariants as insn
use Rattle.bq_insn.specs.declared.form.Form.TheVariants as form
use Rattle.bq_insn.specs.declared.slot.Slot.{Slot}
use Rattle.bq_insn.specs.Table.{opcode_of, form_of}
use Rattle.bq_insn.specs.Spelling.{slot, spelled, is_insn, word16, word32, variant_of}
use Rattle.bq_insn.specs.Reading.{signed16, signed32, variant, insn_of}
use Rattle.bq_insn.specs.Laws.{Fits}
use Rattle.bq_insn.proofs.FormLemmas.{plain, known_alu, known_branch}

-- the instruction that a slot and the one after it are read as
abbrev pub read : Slot → Option Slot → Option Insn
read s next = option_map (λ f. insn_of f s next) (form_of s.opcode)

-- the offset of an operation names it again
variant-again : (o : Operation) → variant (plain o) (variant_of o) ≡ o
variant-again o = elim o as (λ x. variant (plain x) (variant_of x) ≡ x) [ op.Add ↦ refl | _ ↦ refl ]

-- a signed number comes back from the bits of its field
same16 : (z : ℤ) → FitsSigned w16 z → signed16 (word16 z) ≡ z
same16 z h = to_z-of_z w16 z h

-- a signed number comes back from the bits of its field
same32 : (z : ℤ) → FitsSigned w32 z → signed32 (word32 z) ≡ z
same32 z h = to_z-of_z w32 z h

-- an operation on the immediate is read again
again_alu_imm : (w : Width) (o : Operation) (d : ℕ) (n : ℤ) (next : Option Slot)
    → FitsSigned w32 n
    → read (slot (opcode_of (form.Alu w o false)) d 0 (variant_of o) (word32 n)) next ≡ Some (insn.Alu w o d (Imm n))
again_alu_imm w o d n next h =
    ap (option_map (λ f. insn_of f (slot (opcode_of (form.Alu w o false)) d 0 (variant_of o) (word32 n)) next)) (known_alu w o false)
    ∙ ap (λ (x : Operation). Some (insn.Alu w x d (Imm (signed32 (word32 n))))) (variant-again o)
    ∙ ap (λ (z : ℤ). Some (insn.Alu w o d (Imm z))) (same32 n h)

-- an operation on a register is read again
again_alu_reg : (w : Width) (o : Operation) (d s : ℕ) (next : Option Slot)
    → read (slot (opcode_of (form.Alu w o true)) d s (variant_of o) 0) next ≡ Some (insn.Alu w o d (Reg s))
again_alu_reg w o d s next =
    ap (option_map (λ f. insn_of f (slot (opcode_of (form.Alu w o true)) d s (variant_of o) 0) next)) (known_alu w o true)
    ∙ elim o as (λ x.
    Some (insn_of (form.Alu w (plain x) true) (slot (opcode_of (form.Alu w x true)) d s (variant_of x) 0) next)
    ≡ Some (insn.Alu w x d (Reg s))) [ op.Add ↦ refl | _ ↦ refl ]

-- a branch is read by its form
again_branch : (w : Width) (c : Condition) (r : Bool) (s : Slot) (next : Option Slot)
    → s.opcode ≡ opcode_of (form.Branch w c r) → read s next ≡ Some (insn_of (form.Branch w c r) s next)
again_branch w c r s next h = ap (option_map (λ f. insn_of f s next)) (ap form_of h ∙ known_branch w c r)

-- the first slot of a list, a slot of zeros if there is none
abbrev pub head_of : List Slot → Slot
head_of [] = slot 0 0 0 0 0
head_of (s ∷ rest) = s

-- the slot after the first, or the one that follows the list
abbrev pub after : List Slot → Option Slot → Option Slot
after [] next = next
after (s ∷ []) next = next
after (s ∷ t ∷ rest) next = Some t

-- a number is its two halves
halves : (v : ℕ) → v % 2 ^ 32 + 2 ^ 32 * (v / 2 ^ 32) ≡ v
halves v = omega arith

-- what an instruction is spelled by is read as that instruction
pub spelled_reads_back : (i : Insn) → is_insn i ≡ true → Fits i
    → (next : Option Slot) → read (head_of (spelled i)) (after (spelled i) next) ≡ Some i
spelled_reads_back (insn.Alu w o d (Imm n)) h fits next = again_alu_imm w o d n next fits
spelled_reads_back (insn.Alu w o d (Reg s)) h fits next = again_alu_reg w o d s next
spelled_reads_back (insn.MovSx W32 B8 d s) h fits next = refl
spelled_reads_back (insn.MovSx W32 B16 d s) h fits next = refl
spelled_reads_back (insn.MovSx W64 B8 d s) h fits next = refl
spelled_reads_back (insn.MovSx W64 B16 d s) h fits next = refl
spelled_reads_back (insn.MovSx W64 B32 d s) h fits next = refl
spelled_reads_back (insn.MovSx W32 B32 d s) h fits next = absurd (false≢true h)
spelled_reads_back (insn.MovSx W32 B64 d s) h fits next = absurd (false≢true h)
spelled_reads_back (insn.MovSx W64 B64 d s) h fits next = absurd (false≢true h)
spelled_reads_back (insn.Neg W32 d) h fits next = refl
spelled_reads_back (insn.Neg W64 d) h fits next = refl
spelled_reads_back (insn.End order B8 d) h fits next = absurd (false≢true h)
spelled_reads_back (insn.End Little B16 d) h fits next = refl
spelled_reads_back (insn.End Little B32 d) h fits next = refl
spelled_reads_back (insn.End Little B64 d) h fits next = refl
spelled_reads_back (insn.End Big B16 d) h fits next = refl
spelled_reads_back (insn.End Big B32 d) h fits next = refl
spelled_reads_back (insn.End Big B64 d) h fits next = refl
spelled_reads_back (insn.End Swapped B16 d) h fits next = refl
spelled_reads_back (insn.End Swapped B32 d) h fits next = refl
spelled_reads_back (insn.End Swapped B64 d) h fits next = refl
spelled_reads_back (insn.Load Double true d s off) h fits next = absurd (false≢true h)
spelled_reads_back (insn.Load Byte true d s off) h fits next = ap (λ (z : ℤ). Some (insn.Load Byte true d s z)) (same16 off fits)
spelled_reads_back (insn.Load Half true d s off) h fits next = ap (λ (z : ℤ). Some (insn.Load Half true d s z)) (same16 off fits)
spelled_reads_back (insn.Load Word true d s off) h fits next = ap (λ (z : ℤ). Some (insn.Load Word true d s z)) (same16 off fits)
spelled_reads_back (insn.Load Byte false d s off) h fits next = ap (λ (z : ℤ). Some (insn.Load Byte false d s z)) (same16 off fits)
spelled_reads_back (insn.Load Half false d s off) h fits next = ap (λ (z : ℤ). Some (insn.Load Half false d s z)) (same16 off fits)
spelled_reads_back (insn.Load Word false d s off) h fits next = ap (λ (z : ℤ). Some (insn.Load Word false d s z)) (same16 off fits)
spelled_reads_back (insn.Load Double false d s off) h fits next = ap (λ (z : ℤ). Some (insn.Load Double false d s z)) (same16 off fits)
spelled_reads_back (insn.StoreImm Byte d off n) h fits next =
    ap (λ (z : ℤ). Some (insn.StoreImm Byte d z (signed32 (word32 n)))) (same16 off fits.0)
    ∙ ap (λ (z : ℤ). Some (insn.StoreImm Byte d off z)) (same32 n fits.1)
spelled_reads_back (insn.StoreImm Half d off n) h fits next =
    ap (λ (z : ℤ). Some (insn.StoreImm Half d z (signed32 (word32 n)))) (same16 off fits.0)
    ∙ ap (λ (z : ℤ). Some (insn.StoreImm Half d off z)) (same32 n fits.1)
spelled_reads_back (insn.StoreImm Word d off n) h fits next =
    ap (λ (z : ℤ). Some (insn.StoreImm Word d z (signed32 (word32 n)))) (same16 off fits.0)
    ∙ ap (λ (z : ℤ). Some (insn.StoreImm Word d off z)) (same32 n fits.1)
spelled_reads_back (insn.StoreImm Double d off n) h fits next =
    ap (λ (z : ℤ). Some (insn.StoreImm Double d z (signed32 (word32 n)))) (same16 off fits.0)
    ∙ ap (λ (z : ℤ). Some (insn.StoreImm Double d off z)) (same32 n fits.1)
spelled_reads_back (insn.StoreReg Byte d off s) h fits next = ap (λ (z : ℤ). Some (insn.StoreReg Byte d z s)) (same16 off fits)
spelled_reads_back (insn.StoreReg Half d off s) h fits next = ap (λ (z : ℤ). Some (insn.StoreReg Half d z s)) (same16 off fits)
spelled_reads_back (insn.StoreReg Word d off s) h fits next = ap (λ (z : ℤ). Some (insn.StoreReg Word d z s)) (same16 off fits)
spelled_reads_back (insn.StoreReg Double d off s) h fits next = ap (λ (z : ℤ). Some (insn.StoreReg Double d z s)) (same16 off fits)
spelled_reads_back (insn.Imm64 d v) h fits next = ap (λ (n : ℕ). Some (insn.Imm64 d n)) (halves v)
spelled_reads_back (insn.MapRef d n) h fits next = ap (λ (z : ℤ). Some (insn.MapRef d z)) (same32 n fits)
spelled_reads_back (insn.Goto off) h fits next = ap (λ (z : ℤ). Some (insn.Goto z)) (same16 off fits)
spelled_reads_back (insn.Goto32 n) h fits next = ap (λ (z : ℤ). Some (insn.Goto32 z)) (same32 n fits)
spelled_reads_back (insn.Branch w c d (Imm n) off) h fits next =
    again_branch w c false (slot (opcode_of (form.Branch w c false)) d 0 (word16 off) (word32 n)) next refl
    ∙ ap (λ (z : ℤ). Some (insn.Branch w c d (Imm z) (signed16 (word16 off)))) (same32 n fits.0)
    ∙ ap (λ (z : ℤ). Some (insn.Branch w c d (Imm n) z)) (same16 off fits.1)
spelled_reads_back (insn.Branch w c d (Reg s) off) h fits next =
    again_branch w c true (slot (opcode_of (form.Branch w c true)) d s (word16 off) 0) next refl
    ∙ ap (λ (z : ℤ). Some (insn.Branch w c d (Reg s) z)) (same16 off fits.1)
spelled_reads_back (insn.Call n) h fits next = ap (λ (z : ℤ). Some (insn.Call z)) (same32 n fits)
spelled_reads_back insn.Exit h fits next = refl
