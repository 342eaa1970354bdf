-- The instruction that is read has the spelling that was read.
use Rattle.std.proofs.Common.{◌≡◌, ℕ, ◌+◌, ◌*◌, ◌/◌, ◌%◌, ◌^◌, ◌<◌, Bool, true, false, refl, sym, ap, ◌∙◌, inl, inr, ◌⊎◌, [], ◌∷◌, ℤ, arith}
use Rattle.std.specs.Prelude.{◌&&◌, ◌||◌, ◌==◌, not, nat_lt, Option, Some, None, if◌then◌else◌}
use Rattle.std.proofs.lemmas.Bool.Decides.{nat_tests}
use Rattle.std.proofs.lemmas.Bool.{and_from, false≢true, or_parts}
use Rattle.bq_insn.specs.declared.Source.TheVariants.{Imm, Reg}
use Rattle.bq_insn.specs.declared.Order.{Order}
use Rattle.bq_insn.specs.declared.Bits.{Bits}
use Rattle.bq_insn.specs.declared.Bits.TheVariants.{B16, B32, B64}
use Rattle.bq_insn.specs.declared.Size.{Size}
use Rattle.bq_insn.specs.declared.Size.TheVariants.{Byte, Half, Word, Double}
use Rattle.bq_insn.specs.declared.Insn.TheVariants as insn
use Rattle.bq_insn.specs.declared.form.Form.{Form}
use Rattle.bq_insn.specs.declared.form.Form.TheVariants as form
use Rattle.bq_insn.specs.declared.slot.Slot.{Slot}
use Rattle.bq_insn.specs.Table.{opcode_of, form_of, is_form}
use Rattle.bq_insn.specs.Spelling.{slot, is_insn, is_register, word32, bits_number}
use Rattle.bq_insn.specs.Reading.{signed16, signed32, bits_of, insn_of}
use Rattle.bq_insn.specs.Faults.{IsSlot, cause_at_slot}
use Rattle.bq_insn.proofs.FaultLemmas.{IsClean, is_clean, no_strays_is_kept, same_slot}
use Rattle.bq_insn.proofs.ReadsLemmas.{Reads, word16_of_signed16, word32_of_signed32, reads_by, one_slot, two_registers, one_register}
use Rattle.bq_insn.proofs.FormLemmas.{in_table}
use Rattle.bq_insn.proofs.ArithmeticLemmas.{is_zero, plain_of, reads_alu_imm, reads_alu_reg}

-- what a byte order's width names
record HasBits (n : ℕ) : Type 0 where
  bits : Bits
  is : bits_of n ≡ bits
  number : bits_number bits ≡ n
  ranged : (order : Order) (d : ℕ) → is_insn (insn.End order bits d) ≡ is_register d

-- an immediate that is a width
one_width : (n : ℕ) → not ((n == 16) || ((n == 32) || (n == 64))) ≡ false → (n ≡ 16) ⊎ ((n ≡ 32) ⊎ (n ≡ 64))
one_width n h = grind (arith, nat_tests)

-- each of them names bits
has_bits : (n : ℕ) → not ((n == 16) || ((n == 32) || (n == 64))) ≡ false → HasBits n
has_bits n h = elim (one_width n h) as (λ _. HasBits n) [
  | inl e ↦ record { bits = B16; is = ap bits_of e; number = sym e; ranged = λ order d. refl }
  | inr f ↦ elim f as (λ _. HasBits n) [
    | inl e ↦ record { bits = B32; is = ap bits_of e; number = sym e; ranged = λ order d. refl }
    | inr e ↦ record { bits = B64; is = ap bits_of e; number = sym e; ranged = λ order d. refl }
  ]
]

-- a load with a sign has fewer than eight bytes
load_ranged : (size : Size) (signed : Bool) (d r : ℕ) (off : ℤ) → is_form (form.Load size signed) ≡ true
    → is_insn (insn.Load size signed d r off) ≡ (is_register d && is_register r)
load_ranged Double true d r off h = absurd (false≢true h)
load_ranged Double false d r off h = refl
load_ranged Byte signed d r off h = refl
load_ranged Half signed d r off h = refl
load_ranged Word signed d r off h = refl

-- a field that is not over 0
zero_of : (n : ℕ) → nat_lt 0 n ≡ false → 0 ≡ n
zero_of n h = grind (arith, nat_tests)

-- the source field of a map reference
is_five : (n : ℕ) → (n == 5) ≡ true → 5 ≡ n
is_five n h = grind (arith, nat_tests)

-- the source field of a number
zero_kind : (n : ℕ) → (n == 5) ≡ false → not ((n == 0) || (n == 5)) ≡ false → 0 ≡ n
zero_kind n h k = grind (arith, nat_tests)

-- the low half of two
wide_low : (a b : ℕ) → a < 2 ^ 32 → (a + 2 ^ 32 * b) % 2 ^ 32 ≡ a
wide_low a b h = omega arith

-- the high half of two
wide_high : (a b : ℕ) → a < 2 ^ 32 → (a + 2 ^ 32 * b) / 2 ^ 32 ≡ b
wide_high a b h = omega arith

-- two slots are equal one by one
two_slots : (a b s t : Slot) → a ≡ s → b ≡ t → a ∷ b ∷ [] ≡ s ∷ t ∷ []
two_slots a b s t h k = ap (λ (x : Slot). x ∷ b ∷ []) h ∙ ap (λ (x : Slot). s ∷ x ∷ []) k

-- a wide instruction
reads_wide : (s : Slot) (next : Option Slot) → IsSlot s → s.opcode ≡ opcode_of form.Wide → IsClean form.Wide s next
    → Reads s next (insn_of form.Wide s next)
reads_wide s None fits opcode clean = absurd (let e : true ≡ false = clean.whole in cc)
reads_wide s (Some t) fits opcode clean = by_test (s.src == 5) refl second.4
  where
    a : (nat_lt 0 t.opcode ≡ false)
        × ((nat_lt 0 t.dst || (nat_lt 0 t.src || (nat_lt 0 t.offset || ((s.src == 5) && nat_lt 0 t.imm)))) ≡ false)
    a = or_parts (nat_lt 0 t.opcode) _ clean.second

    b : (nat_lt 0 t.dst ≡ false) × ((nat_lt 0 t.src || (nat_lt 0 t.offset || ((s.src == 5) && nat_lt 0 t.imm))) ≡ false)
    b = or_parts (nat_lt 0 t.dst) _ a.1

    d : (nat_lt 0 t.src ≡ false) × ((nat_lt 0 t.offset || ((s.src == 5) && nat_lt 0 t.imm)) ≡ false)
    d = or_parts (nat_lt 0 t.src) _ b.1

    e : (nat_lt 0 t.offset ≡ false) × (((s.src == 5) && nat_lt 0 t.imm) ≡ false)
    e = or_parts (nat_lt 0 t.offset) _ d.1

    second : (0 ≡ t.opcode) × (0 ≡ t.dst) × (0 ≡ t.src) × (0 ≡ t.offset) × (((s.src == 5) && nat_lt 0 t.imm) ≡ false)
    second = (zero_of t.opcode a.0, zero_of t.dst b.0, zero_of t.src d.0, zero_of t.offset e.0, e.1)

    first : slot (opcode_of form.Wide) s.dst s.src 0 s.imm ≡ s
    first = no_strays_is_kept form.Wide s (opcode_of form.Wide) (sym opcode) clean.fields

    ranged : is_register s.dst ≡ true
    ranged = one_register s.dst clean.registers

    by_test : (b : Bool) → (s.src == 5) ≡ b → (b && nat_lt 0 t.imm) ≡ false
        → Reads s (Some t) (if b then insn.MapRef s.dst (signed32 s.imm) else insn.Imm64 s.dst (s.imm + 2 ^ 32 * t.imm))
    by_test true five stray = (
      ranged,
      inr (two_slots _ _ s t (ap (λ (x : ℕ). slot (opcode_of form.Wide) s.dst x 0 (word32 (signed32 s.imm))) (is_five s.src five)
          ∙ ap (λ (x : ℕ). slot (opcode_of form.Wide) s.dst s.src 0 x) (word32_of_signed32 s.imm fits.imm) ∙ first)
          (same_slot t 0 0 0 0 0 second.0 second.1 second.2 second.3 (zero_of t.imm stray))),
    )
    by_test false other stray = (
      ranged,
      inr (two_slots _ _ s t
          (ap (λ (x : ℕ). slot (opcode_of form.Wide) s.dst x 0 ((s.imm + 2 ^ 32 * t.imm) % 2 ^ 32)) (zero_kind s.src other clean.variant)
          ∙ ap (λ (x : ℕ). slot (opcode_of form.Wide) s.dst s.src 0 x) (wide_low s.imm t.imm fits.imm) ∙ first)
          (same_slot t 0 0 0 0 _ second.0 second.1 second.2 second.3 (wide_high s.imm t.imm fits.imm))),
    )

-- by form
reads_form : (f : Form) (s : Slot) (next : Option Slot) → IsSlot s → is_form f ≡ true
    → s.opcode ≡ opcode_of f → IsClean f s next
    → Reads s next (insn_of f s next)
reads_form (form.Alu w o false) s next fits known opcode clean = reads_alu_imm w o s next fits (plain_of w o false known) opcode clean
reads_form (form.Alu w o true) s next fits known opcode clean = reads_alu_reg w o s next fits (plain_of w o true known) opcode clean
reads_form (form.Neg w) s next fits known opcode clean =
    reads_by (form.Neg w) s next (insn.Neg w s.dst) opcode clean (one_register s.dst clean.registers) refl
reads_form (form.End order) s next fits known opcode clean =
    let x = has_bits s.imm clean.width in
    reads_by (form.End order) s next (insn.End order (bits_of s.imm) s.dst) opcode clean
    (ap (λ (b : Bits). is_insn (insn.End order b s.dst)) x.is ∙ x.ranged order s.dst ∙ one_register s.dst clean.registers)
    (one_slot _ _ _ _ _ _ _ _ _ _ refl refl refl refl (ap bits_number x.is ∙ x.number))
reads_form (form.Load size signed) s next fits known opcode clean =
    reads_by (form.Load size signed) s next (insn.Load size signed s.dst s.src (signed16 s.offset)) opcode clean
    (load_ranged size signed s.dst s.src (signed16 s.offset) known ∙ two_registers s.dst s.src clean.registers)
    (one_slot _ _ _ _ _ _ _ _ _ _ refl refl refl (word16_of_signed16 s.offset fits.offset) refl)
reads_form (form.StoreImm size) s next fits known opcode clean =
    reads_by (form.StoreImm size) s next (insn.StoreImm size s.dst (signed16 s.offset) (signed32 s.imm))
    opcode clean (one_register s.dst clean.registers)
    (one_slot _ _ _ _ _ _ _ _ _ _ refl refl refl (word16_of_signed16 s.offset fits.offset) (word32_of_signed32 s.imm fits.imm))
reads_form (form.StoreReg size) s next fits known opcode clean =
    reads_by (form.StoreReg size) s next (insn.StoreReg size s.dst (signed16 s.offset) s.src) opcode clean
    (two_registers s.dst s.src clean.registers) (one_slot _ _ _ _ _ _ _ _ _ _ refl refl refl (word16_of_signed16 s.offset fits.offset) refl)
reads_form form.Wide s next fits known opcode clean = reads_wide s next fits opcode clean
reads_form form.Goto s next fits known opcode clean =
    reads_by form.Goto s next (insn.Goto (signed16 s.offset)) opcode clean refl
    (one_slot _ _ _ _ _ _ _ _ _ _ refl refl refl (word16_of_signed16 s.offset fits.offset) refl)
reads_form form.Goto32 s next fits known opcode clean =
    reads_by form.Goto32 s next (insn.Goto32 (signed32 s.imm)) opcode clean refl
    (one_slot _ _ _ _ _ _ _ _ _ _ refl refl refl refl (word32_of_signed32 s.imm fits.imm))
reads_form (form.Branch w c false) s next fits known opcode clean =
    reads_by (form.Branch w c false) s next (insn.Branch w c s.dst (Imm (signed32 s.imm)) (signed16 s.offset))
    opcode clean (and_from (is_register s.dst) true (one_register s.dst clean.registers) refl)
    (one_slot _ _ _ _ _ _ _ _ _ _ refl refl refl (word16_of_signed16 s.offset fits.offset) (word32_of_signed32 s.imm fits.imm))
reads_form (form.Branch w c true) s next fits known opcode clean =
    reads_by (form.Branch w c true) s next (insn.Branch w c s.dst (Reg s.src) (signed16 s.offset)) opcode clean
    (two_registers s.dst s.src clean.registers) (one_slot _ _ _ _ _ _ _ _ _ _ refl refl refl (word16_of_signed16 s.offset fits.offset) refl)
reads_form form.Call s next fits known opcode clean =
    reads_by form.Call s next (insn.Call (signed32 s.imm)) opcode clean refl
    (one_slot _ _ _ _ _ _ _ _ _ _ refl refl (sym (is_zero s.src clean.variant)) refl (word32_of_signed32 s.imm fits.imm))
reads_form form.Exit s next fits known opcode clean =
    reads_by form.Exit s next insn.Exit opcode clean refl refl

-- slots without a fault spell the instruction that is read
pub faultless_slots_read : (f : Form) (s : Slot) (next : Option Slot)
    → IsSlot s → form_of s.opcode ≡ Some f → cause_at_slot f s next ≡ None → Reads s next (insn_of f s next)
faultless_slots_read f s next fits known none =
    let table = in_table s.opcode f fits.opcode known in
    reads_form f s next fits table.1 table.0 (is_clean f s next none)
