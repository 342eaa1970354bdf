-- The numbers of instructions that are read fit their fields.
use Rattle.std.proofs.Common.{ℕ, ◌+◌, ◌*◌, ◌^◌, ◌<◌, Bool, true, false, List, [], ◌∷◌, ◌++◌, arith}
use Rattle.std.specs.Prelude.{◌==◌, Option, Some, None, if◌then◌else◌, FitsSigned}
use Rattle.std.specs.Int.{w16, w32}
use Rattle.std.proofs.Math.Facts.{sfits_to_z, Fits-of_lt}
use Rattle.bq_insn.specs.declared.Width.{Width}
use Rattle.bq_insn.specs.declared.Operation.{Operation}
use Rattle.bq_insn.specs.declared.Operation.TheVariants as op
use Rattle.bq_insn.specs.declared.Source.TheVariants.{Reg}
use Rattle.bq_insn.specs.declared.Insn.{Insn}
use Rattle.bq_insn.specs.declared.Insn.TheVariants as insn
use Rattle.bq_insn.specs.declared.form.Form.{Form}
use Rattle.bq_insn.specs.declared.form.Form.TheVariants as form
use Rattle.bq_insn.specs.declared.slot.Slot.{Slot}
use Rattle.bq_insn.specs.Reading.{signed16, signed32, bits_of, alu_of, insn_of, second_imm}
use Rattle.bq_insn.specs.Laws.{Fits, AllFit}
use Rattle.bq_insn.specs.Faults.{BeginsWith, IsSlot}

-- the sign of a field of 32 bits keeps it in 32 bits
signed32_fits : (n : ℕ) → n < 2 ^ 32 → FitsSigned w32 (signed32 n)
signed32_fits n h = sfits_to_z {w = w32} {n = n} (Fits-of_lt {w = w32} {n = n} h)

-- the sign of a field of 16 bits keeps it in 16 bits
signed16_fits : (n : ℕ) → n < 2 ^ 16 → FitsSigned w16 (signed16 n)
signed16_fits n h = sfits_to_z {w = w16} {n = n} (Fits-of_lt {w = w16} {n = n} h)

-- a move has no number
move_fits : (w : Width) (s : Slot) (b : Bool)
    → Fits (if b then insn.Alu w op.Mov s.dst (Reg s.src) else insn.MovSx w (bits_of s.offset) s.dst s.src)
move_fits w s true = tt
move_fits w s false = tt

-- the immediate of an operation fits
alu_fits : (w : Width) (o : Operation) (r : Bool) (s : Slot) → s.imm < 2 ^ 32 → Fits (alu_of w o r s)
alu_fits w o false s h = signed32_fits s.imm h
alu_fits w op.Mov true s h = move_fits w s (s.offset == 0)
alu_fits w o true s h = tt

-- a number of two halves fits in 64 bits
wide_fits : (s : Slot) (next : Option Slot) (b : Bool) → s.imm < 2 ^ 32 → second_imm next < 2 ^ 32
    → Fits (if b then insn.MapRef s.dst (signed32 s.imm) else insn.Imm64 s.dst (s.imm + 2 ^ 32 * second_imm next))
wide_fits s next true h k = signed32_fits s.imm h
wide_fits s next false h k = omega arith

-- the numbers that are read fit
pub numbers_read : (f : Form) (s : Slot) (next : Option Slot) → IsSlot s → second_imm next < 2 ^ 32 → Fits (insn_of f s next)
numbers_read (form.Alu w o r) s next fits k = alu_fits w o r s fits.imm
numbers_read (form.Neg w) s next fits k = tt
numbers_read (form.End order) s next fits k = tt
numbers_read (form.Load size signed) s next fits k = signed16_fits s.offset fits.offset
numbers_read (form.StoreImm size) s next fits k = (signed16_fits s.offset fits.offset, signed32_fits s.imm fits.imm)
numbers_read (form.StoreReg size) s next fits k = signed16_fits s.offset fits.offset
numbers_read form.Wide s next fits k = wide_fits s next (s.src == 5) fits.imm k
numbers_read form.Goto s next fits k = signed16_fits s.offset fits.offset
numbers_read form.Goto32 s next fits k = signed32_fits s.imm fits.imm
numbers_read (form.Branch w c false) s next fits k = (signed32_fits s.imm fits.imm, signed16_fits s.offset fits.offset)
numbers_read (form.Branch w c true) s next fits k = (tt, signed16_fits s.offset fits.offset)
numbers_read form.Call s next fits k = signed32_fits s.imm fits.imm
numbers_read form.Exit s next fits k = tt

-- the second slot's immediate fits
pub second_small : (bytes : List ℕ) (s : Slot) (next : Option Slot) → BeginsWith bytes s next → second_imm next < 2 ^ 32
second_small bytes s None begins = omega arith
second_small bytes s (Some t) begins = begins.0.imm

-- one more instruction whose numbers fit
pub numbers_more : (insns : List Insn) (i : Insn) → AllFit insns → Fits i → AllFit (insns ++ i ∷ [])
numbers_more [] i h k = (k, tt)
numbers_more (x ∷ insns) i h k = (h.0, numbers_more insns i h.1 k)
