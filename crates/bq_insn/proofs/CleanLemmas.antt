-- The slots of an instruction in range have no fault.
use Rattle.std.proofs.Common.{◌≡◌, ℕ, true, false, refl, ap, ◌∙◌, arith}
use Rattle.std.specs.Prelude.{Option, Some, None, nat_lt, ◌&&◌, ◌||◌, if◌then◌else◌}
use Rattle.bq_insn.specs.declared.Condition.{Condition}
use Rattle.bq_insn.specs.declared.fault.DecodeCause.TheVariants as cause
use Rattle.std.proofs.lemmas.Bool.Decides.{nat_tests}
use Rattle.std.proofs.lemmas.Bool.{and_parts, false≢true}
use Rattle.bq_insn.specs.declared.Width.{Width}
use Rattle.bq_insn.specs.declared.Width.TheVariants.{W32, W64}
use Rattle.bq_insn.specs.declared.Operation.{Operation}
use Rattle.bq_insn.specs.declared.Operation.TheVariants as op
use Rattle.bq_insn.specs.declared.Order.TheVariants.{Little, Big, Swapped}
use Rattle.bq_insn.specs.declared.Bits.TheVariants.{B8, B16, B32, B64}
use Rattle.bq_insn.specs.declared.Size.TheVariants.{Byte, Half, Word, Double}
use Rattle.bq_insn.specs.declared.Source.TheVariants.{Imm, Reg}
use Rattle.bq_insn.specs.declared.Insn.{Insn}
use Rattle.bq_insn.specs.declared.Insn.TheVariants as insn
use Rattle.bq_insn.specs.declared.form.Form.TheVariants as form
use Rattle.bq_insn.specs.declared.slot.Slot.{Slot}
use Rattle.bq_insn.specs.Table.{opcode_of}
use Rattle.bq_insn.specs.Spelling.{slot, spelled, is_insn, is_register, word16, word32, variant_of}
use Rattle.bq_insn.specs.Faults.{cause_at_slot, cause_of_form, cause_of}
use Rattle.bq_insn.proofs.FormLemmas.{plain, known_alu, known_branch}
use Rattle.bq_insn.proofs.SpelledSlotsLemmas.{head_of, after}

-- a register that there is
in_range : (r : ℕ) → is_register r ≡ true → nat_lt 10 r ≡ false
in_range r h = grind (arith, nat_tests)

-- an operation on the immediate has no fault
clean_alu_imm : (w : Width) (o : Operation) (d n : ℕ) (next : Option Slot)
    → is_register d ≡ true
    → cause_of (slot (opcode_of (form.Alu w o false)) d 0 (variant_of o) n) next ≡ None
clean_alu_imm w o d n next h =
    let e = in_range d h in
    ap (λ f. cause_of_form f (slot (opcode_of (form.Alu w o false)) d 0 (variant_of o) n) next) (known_alu w o false)
    ∙ elim o as (λ x. cause_at_slot (form.Alu w (plain x) false) (slot (opcode_of (form.Alu w x false)) d 0 (variant_of x) n) next ≡ None)
    [ op.Add ↦ rw e refl | _ ↦ rw e refl ]

-- an operation on a register has no fault
clean_alu_reg : (w : Width) (o : Operation) (d s : ℕ) (next : Option Slot)
    → (is_register d && is_register s) ≡ true
    → cause_of (slot (opcode_of (form.Alu w o true)) d s (variant_of o) 0) next ≡ None
clean_alu_reg W32 o d s next h =
    let parts = and_parts (is_register d) (is_register s) h in
    let a = in_range d parts.0 in
    let b = in_range s parts.1 in
    ap (λ f. cause_of_form f (slot (opcode_of (form.Alu W32 o true)) d s (variant_of o) 0) next) (known_alu W32 o true)
    ∙ elim o as (λ x. cause_at_slot (form.Alu W32 (plain x) true) (slot (opcode_of (form.Alu W32 x true)) d s (variant_of x) 0) next ≡ None)
    [ op.Add ↦ rw (a, b) refl | _ ↦ rw (a, b) refl ]
clean_alu_reg W64 o d s next h =
    let parts = and_parts (is_register d) (is_register s) h in
    let a = in_range d parts.0 in
    let b = in_range s parts.1 in
    ap (λ f. cause_of_form f (slot (opcode_of (form.Alu W64 o true)) d s (variant_of o) 0) next) (known_alu W64 o true)
    ∙ elim o as (λ x. cause_at_slot (form.Alu W64 (plain x) true) (slot (opcode_of (form.Alu W64 x true)) d s (variant_of x) 0) next ≡ None)
    [ op.Add ↦ rw (a, b) refl | _ ↦ rw (a, b) refl ]

-- a branch on the immediate has no fault
clean_branch_imm : (w : Width) (c : Condition) (d off n : ℕ) (next : Option Slot)
    → is_register d ≡ true → cause_of (slot (opcode_of (form.Branch w c false)) d 0 off n) next ≡ None
clean_branch_imm w c d off n next h =
    let e = in_range d h in
    ap (λ f. cause_of_form f (slot (opcode_of (form.Branch w c false)) d 0 off n) next) (known_branch w c false) ∙ rw e refl

-- a branch on a register has no fault
clean_branch_reg : (w : Width) (c : Condition) (d s off : ℕ) (next : Option Slot)
    → (is_register d && is_register s) ≡ true
    → cause_of (slot (opcode_of (form.Branch w c true)) d s off 0) next ≡ None
clean_branch_reg w c d s off next h =
    let parts = and_parts (is_register d) (is_register s) h in
    let a = in_range d parts.0 in
    let b = in_range s parts.1 in
    ap (λ f. cause_of_form f (slot (opcode_of (form.Branch w c true)) d s off 0) next) (known_branch w c true) ∙ rw (a, b) refl

-- a slot with one register, or with two
one : (d : ℕ) → is_register d ≡ true → (if nat_lt 10 d || false then Some cause.Register else None) ≡ None
one d h = let e = in_range d h in rw e refl

-- a slot with two registers has no fault
two : (d s : ℕ) → (is_register d && is_register s) ≡ true → (if nat_lt 10 d || nat_lt 10 s then Some cause.Register else None) ≡ None
two d s h =
    let parts = and_parts (is_register d) (is_register s) h in
    let a = in_range d parts.0 in
    let b = in_range s parts.1 in
    rw (a, b) refl

-- what spells an instruction in range has no fault
pub spelled_is_clean : (i : Insn) → is_insn i ≡ true → (next : Option Slot) → cause_of (head_of (spelled i)) (after (spelled i) next) ≡ None
spelled_is_clean (insn.Alu w o d (Imm n)) h next = clean_alu_imm w o d (word32 n) next (and_parts (is_register d) true h).0
spelled_is_clean (insn.Alu w o d (Reg s)) h next = clean_alu_reg w o d s next h
spelled_is_clean (insn.Branch w c d (Imm n) off) h next =
    clean_branch_imm w c d (word16 off) (word32 n) next (and_parts (is_register d) true h).0
spelled_is_clean (insn.Branch w c d (Reg s) off) h next = clean_branch_reg w c d s (word16 off) next h
spelled_is_clean (insn.MovSx W32 B8 d s) h next = two d s h
spelled_is_clean (insn.MovSx W32 B16 d s) h next = two d s h
spelled_is_clean (insn.MovSx W64 B8 d s) h next = two d s h
spelled_is_clean (insn.MovSx W64 B16 d s) h next = two d s h
spelled_is_clean (insn.MovSx W64 B32 d s) h next = two d s h
spelled_is_clean (insn.MovSx W32 B32 d s) h next = absurd (false≢true h)
spelled_is_clean (insn.MovSx W32 B64 d s) h next = absurd (false≢true h)
spelled_is_clean (insn.MovSx W64 B64 d s) h next = absurd (false≢true h)
spelled_is_clean (insn.Neg W32 d) h next = one d h
spelled_is_clean (insn.Neg W64 d) h next = one d h
spelled_is_clean (insn.End order B8 d) h next = absurd (false≢true h)
spelled_is_clean (insn.End Little B16 d) h next = one d h
spelled_is_clean (insn.End Little B32 d) h next = one d h
spelled_is_clean (insn.End Little B64 d) h next = one d h
spelled_is_clean (insn.End Big B16 d) h next = one d h
spelled_is_clean (insn.End Big B32 d) h next = one d h
spelled_is_clean (insn.End Big B64 d) h next = one d h
spelled_is_clean (insn.End Swapped B16 d) h next = one d h
spelled_is_clean (insn.End Swapped B32 d) h next = one d h
spelled_is_clean (insn.End Swapped B64 d) h next = one d h
spelled_is_clean (insn.Load Double true d s off) h next = absurd (false≢true h)
spelled_is_clean (insn.Load Byte true d s off) h next = two d s h
spelled_is_clean (insn.Load Half true d s off) h next = two d s h
spelled_is_clean (insn.Load Word true d s off) h next = two d s h
spelled_is_clean (insn.Load Byte false d s off) h next = two d s h
spelled_is_clean (insn.Load Half false d s off) h next = two d s h
spelled_is_clean (insn.Load Word false d s off) h next = two d s h
spelled_is_clean (insn.Load Double false d s off) h next = two d s h
spelled_is_clean (insn.StoreImm Byte d off n) h next = one d h
spelled_is_clean (insn.StoreImm Half d off n) h next = one d h
spelled_is_clean (insn.StoreImm Word d off n) h next = one d h
spelled_is_clean (insn.StoreImm Double d off n) h next = one d h
spelled_is_clean (insn.StoreReg Byte d off s) h next = two d s h
spelled_is_clean (insn.StoreReg Half d off s) h next = two d s h
spelled_is_clean (insn.StoreReg Word d off s) h next = two d s h
spelled_is_clean (insn.StoreReg Double d off s) h next = two d s h
spelled_is_clean (insn.Imm64 d v) h next = one d h
spelled_is_clean (insn.MapRef d n) h next = one d h
spelled_is_clean (insn.Goto off) h next = refl
spelled_is_clean (insn.Goto32 n) h next = refl
spelled_is_clean (insn.Call n) h next = refl
spelled_is_clean insn.Exit h next = refl
