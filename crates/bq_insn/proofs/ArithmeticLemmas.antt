-- Arithmetic that is read has the spelling that was read.
use Rattle.std.proofs.Common.{◌≡◌, ℕ, ◌+◌, ◌*◌, Bool, true, false, refl, sym, ap, ◌∙◌, subst, inl, inr, ◌⊎◌, arith}
use Rattle.std.specs.Prelude.{◌&&◌, ◌||◌, ◌==◌, not, nat_lt, Option, if◌then◌else◌}
use Rattle.std.proofs.lemmas.Bool.Decides.{nat_tests}
use Rattle.std.proofs.lemmas.Bool.{and_from, false≢true}
use Rattle.bq_insn.specs.declared.Width.{Width}
use Rattle.bq_insn.specs.declared.Width.TheVariants.{W32, W64}
use Rattle.bq_insn.specs.declared.Operation.{Operation}
use Rattle.bq_insn.specs.declared.Operation.TheVariants as op
use Rattle.bq_insn.specs.declared.Source.TheVariants.{Reg}
use Rattle.bq_insn.specs.declared.Bits.{Bits}
use Rattle.bq_insn.specs.declared.Bits.TheVariants.{B8, B16, B32}
use Rattle.bq_insn.specs.declared.Insn.TheVariants as insn
use Rattle.bq_insn.specs.declared.form.Form.TheVariants as form
use Rattle.bq_insn.specs.declared.slot.Slot.{Slot}
use Rattle.bq_insn.specs.Table.{opcode_of, is_form, code_of, alu_class}
use Rattle.bq_insn.specs.Uses.{variant_use}
use Rattle.bq_insn.specs.Spelling.{is_insn, is_register, variant_of, bits_number}
use Rattle.bq_insn.specs.Reading.{variant, bits_of, register_move, alu_of}
use Rattle.bq_insn.specs.Faults.{IsSlot, is_variant}
use Rattle.bq_insn.proofs.FaultLemmas.{IsClean, kept}
use Rattle.bq_insn.proofs.ReadsLemmas.{Reads, word32_of_signed32, reads_by, one_slot, two_registers, one_register}

-- a variant has the code of its operation
code_of-variant : (o : Operation) (n : ℕ) → code_of (variant o n) ≡ code_of o
code_of-variant op.Div n = elim (n == 1) as (λ b. code_of (if b then op.Sdiv else op.Div) ≡ 3) [ true ↦ refl | false ↦ refl ]
code_of-variant op.Rem n = elim (n == 1) as (λ b. code_of (if b then op.Srem else op.Rem) ≡ 9) [ true ↦ refl | false ↦ refl ]
code_of-variant o n = refl

-- the table names an operation and not a variant of it
pub plain_of : (w : Width) (o : Operation) (r : Bool) → is_form (form.Alu w o r) ≡ true → variant_of o ≡ 0
plain_of w op.Sdiv r h = absurd (false≢true h)
plain_of w op.Srem r h = absurd (false≢true h)
plain_of w o r h = refl

-- an offset below 2
zero_or_one : (n : ℕ) → not (nat_lt n 2) ≡ false → (n ≡ 0) ⊎ (n ≡ 1)
zero_or_one n h = grind (arith, nat_tests)

-- an offset that is 0
pub is_zero : (n : ℕ) → not (n == 0) ≡ false → n ≡ 0
is_zero n h = grind (arith, nat_tests)

-- the offset is that of the variant
offset_imm : (w : Width) (o : Operation) (n : ℕ) → variant_of o ≡ 0 → not (is_variant w o false n) ≡ false
    → variant_of (variant o n) ≡ kept (variant_use o) n
offset_imm w op.Div n plain h = elim (zero_or_one n h) as (λ _. variant_of (variant op.Div n) ≡ n) [
  | inl e ↦ subst (λ (m : ℕ). variant_of (variant op.Div m) ≡ m) (sym e) refl
  | inr e ↦ subst (λ (m : ℕ). variant_of (variant op.Div m) ≡ m) (sym e) refl
]
offset_imm w op.Rem n plain h = elim (zero_or_one n h) as (λ _. variant_of (variant op.Rem n) ≡ n) [
  | inl e ↦ subst (λ (m : ℕ). variant_of (variant op.Rem m) ≡ m) (sym e) refl
  | inr e ↦ subst (λ (m : ℕ). variant_of (variant op.Rem m) ≡ m) (sym e) refl
]
offset_imm w op.Mov n plain h = sym (is_zero n h)
offset_imm w o n plain h = plain

-- an operation on an immediate
pub reads_alu_imm : (w : Width) (o : Operation) (s : Slot) (next : Option Slot)
    → IsSlot s → variant_of o ≡ 0 → s.opcode ≡ opcode_of (form.Alu w o false) → IsClean (form.Alu w o false) s next
    → Reads s next (alu_of w o false s)
reads_alu_imm w o s next fits plain opcode clean =
    let same : opcode_of (form.Alu w (variant o s.offset) false) ≡ opcode_of (form.Alu w o false) =
    ap (λ (c : ℕ). alu_class w + 0 + 16 * c) (code_of-variant o s.offset) in
    reads_by (form.Alu w o false) s next (alu_of w o false s) opcode clean
    (and_from (is_register s.dst) true (one_register s.dst clean.registers) refl)
    (one_slot _ _ _ _ _ _ _ _ _ _ same refl refl (offset_imm w o s.offset plain clean.variant) (word32_of_signed32 s.imm fits.imm))

-- what a move that extends the sign names
record Extends (w : Width) (n : ℕ) : Type 0 where
  bits : Bits
  is : bits_of n ≡ bits
  number : bits_number bits ≡ n
  ranged : (d r : ℕ) → is_insn (insn.MovSx w bits d r) ≡ (is_register d && is_register r)

-- an offset that extends a sign to 32 bits
one_of_two : (n a b : ℕ) → (n == 0) ≡ false → not ((n == 0) || ((n == a) || (n == b))) ≡ false → (n ≡ a) ⊎ (n ≡ b)
one_of_two n a b z h = grind (arith, nat_tests)

-- an offset that extends a sign to 64 bits
one_of_three : (n a b c : ℕ) → (n == 0) ≡ false → not ((n == 0) || ((n == a) || ((n == b) || (n == c)))) ≡ false
    → (n ≡ a) ⊎ ((n ≡ b) ⊎ (n ≡ c))
one_of_three n a b c z h = grind (arith, nat_tests)

-- each offset that is a variant of a move, and not 0, names bits
extends : (w : Width) (n : ℕ) → (n == 0) ≡ false → not (is_variant w op.Mov true n) ≡ false → Extends w n
extends W32 n z h = elim (one_of_two n 8 16 z h) as (λ _. Extends W32 n) [
  | inl e ↦ record { bits = B8; is = ap bits_of e; number = sym e; ranged = λ d r. refl }
  | inr e ↦ record { bits = B16; is = ap bits_of e; number = sym e; ranged = λ d r. refl }
]
extends W64 n z h = elim (one_of_three n 8 16 32 z h) as (λ _. Extends W64 n) [
  | inl e ↦ record { bits = B8; is = ap bits_of e; number = sym e; ranged = λ d r. refl }
  | inr f ↦ elim f as (λ _. Extends W64 n) [
    | inl e ↦ record { bits = B16; is = ap bits_of e; number = sym e; ranged = λ d r. refl }
    | inr e ↦ record { bits = B32; is = ap bits_of e; number = sym e; ranged = λ d r. refl }
  ]
]

-- a move from a register, with a sign or without
reads_move : (w : Width) (s : Slot) (next : Option Slot) → IsSlot s → s.opcode ≡ opcode_of (form.Alu w op.Mov true)
    → IsClean (form.Alu w op.Mov true) s next
    → Reads s next (register_move w s)
reads_move w s next fits opcode clean = by_test (s.offset == 0) refl
  where
    ranged : (is_register s.dst && is_register s.src) ≡ true
    ranged = two_registers s.dst s.src clean.registers

    by_test : (b : Bool) → (s.offset == 0) ≡ b
        → Reads s next (if b then insn.Alu w op.Mov s.dst (Reg s.src) else insn.MovSx w (bits_of s.offset) s.dst s.src)
    by_test true e =
        let zero : 0 ≡ s.offset = grind (arith, nat_tests) in
        reads_by (form.Alu w op.Mov true) s next (insn.Alu w op.Mov s.dst (Reg s.src)) opcode clean ranged
        (one_slot _ _ _ _ _ _ _ _ _ _ refl refl refl zero refl)
    by_test false e =
        let x = extends w s.offset e clean.variant in
        reads_by (form.Alu w op.Mov true) s next (insn.MovSx w (bits_of s.offset) s.dst s.src) opcode clean
        (ap (λ (b : Bits). is_insn (insn.MovSx w b s.dst s.src)) x.is ∙ x.ranged s.dst s.src ∙ ranged)
        (one_slot _ _ _ _ _ _ _ _ _ _ refl refl refl (ap bits_number x.is ∙ x.number) refl)

-- an operation on a register whose offset is that of its variant
reads_operation : (w : Width) (o : Operation) (s : Slot) (next : Option Slot)
    → variant_of (variant o s.offset) ≡ kept (variant_use o) s.offset → s.opcode ≡ opcode_of (form.Alu w o true)
    → IsClean (form.Alu w o true) s next
    → Reads s next (insn.Alu w (variant o s.offset) s.dst (Reg s.src))
reads_operation w o s next offset opcode clean =
    let same : opcode_of (form.Alu w (variant o s.offset) true) ≡ opcode_of (form.Alu w o true) =
    ap (λ (c : ℕ). alu_class w + 8 + 16 * c) (code_of-variant o s.offset) in
    reads_by (form.Alu w o true) s next (insn.Alu w (variant o s.offset) s.dst (Reg s.src)) opcode clean
    (two_registers s.dst s.src clean.registers) (one_slot _ _ _ _ _ _ _ _ _ _ same refl refl offset refl)

-- an operation on a register
pub reads_alu_reg : (w : Width) (o : Operation) (s : Slot) (next : Option Slot)
    → IsSlot s → variant_of o ≡ 0 → s.opcode ≡ opcode_of (form.Alu w o true) → IsClean (form.Alu w o true) s next
    → Reads s next (alu_of w o true s)
reads_alu_reg w op.Mov s next fits plain opcode clean = reads_move w s next fits opcode clean
reads_alu_reg w op.Div s next fits plain opcode clean =
    reads_operation w op.Div s next (offset_imm w op.Div s.offset plain clean.variant) opcode clean
reads_alu_reg w op.Rem s next fits plain opcode clean =
    reads_operation w op.Rem s next (offset_imm w op.Rem s.offset plain clean.variant) opcode clean
reads_alu_reg w op.Sdiv s next fits plain opcode clean = absurd (omega arith)
reads_alu_reg w op.Srem s next fits plain opcode clean = absurd (omega arith)
reads_alu_reg w op.Add s next fits plain opcode clean = reads_operation w op.Add s next refl opcode clean
reads_alu_reg w op.Sub s next fits plain opcode clean = reads_operation w op.Sub s next refl opcode clean
reads_alu_reg w op.Mul s next fits plain opcode clean = reads_operation w op.Mul s next refl opcode clean
reads_alu_reg w op.Or s next fits plain opcode clean = reads_operation w op.Or s next refl opcode clean
reads_alu_reg w op.And s next fits plain opcode clean = reads_operation w op.And s next refl opcode clean
reads_alu_reg w op.Lsh s next fits plain opcode clean = reads_operation w op.Lsh s next refl opcode clean
reads_alu_reg w op.Rsh s next fits plain opcode clean = reads_operation w op.Rsh s next refl opcode clean
reads_alu_reg w op.Xor s next fits plain opcode clean = reads_operation w op.Xor s next refl opcode clean
reads_alu_reg w op.Arsh s next fits plain opcode clean = reads_operation w op.Arsh s next refl opcode clean
