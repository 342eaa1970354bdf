-- The instruction that slots without a fault spell (RFC 9669, sections 3 to 5), field by field. `decode` promises that
-- the spelling of its answer is what it read.
use Rattle.std.specs.Prelude.{ℕ, ◌+◌, ◌*◌, ◌^◌, ℤ, Bool, true, false, ◌==◌, Option, Some, None, if◌then◌else◌}
use Rattle.std.specs.Int.{w16, w32, cast_signed}
use Rattle.bq_insn.specs.declared.Operation.{Operation}
use Rattle.bq_insn.specs.declared.Operation.TheVariants as op
use Rattle.bq_insn.specs.declared.Width.{Width}
use Rattle.bq_insn.specs.declared.Source.TheVariants.{Imm, Reg}
use Rattle.bq_insn.specs.declared.Bits.{Bits}
use Rattle.bq_insn.specs.declared.Bits.TheVariants.{B8, B16, B32, B64}
use Rattle.bq_insn.specs.declared.Insn.{Insn}
use Rattle.bq_insn.specs.declared.Insn.TheVariants as insn
use Rattle.bq_insn.specs.declared.form.Form.{Form}
use Rattle.bq_insn.specs.declared.form.Form.TheVariants as form
use Rattle.bq_insn.specs.declared.slot.Slot.{Slot}

-- the signed number that the bits of a 16-bit field spell
abbrev pub signed16 : ℕ → ℤ
signed16 n = cast_signed w16 n

-- the signed number that the bits of a 32-bit field spell
abbrev pub signed32 : ℕ → ℤ
signed32 n = cast_signed w32 n

-- the name of a number of bits; every number but 8, 16 and 32 counts as 64
abbrev pub bits_of : ℕ → Bits
bits_of n = if n == 8 then B8 else if n == 16 then B16 else if n == 32 then B32 else B64

-- the operation that the opcode and the offset name together: offset 1 makes a division or a remainder signed (section 4.1)
abbrev pub variant : Operation → ℕ → Operation
variant op.Div n = if n == 1 then op.Sdiv else op.Div
variant op.Rem n = if n == 1 then op.Srem else op.Rem
variant o n = o

-- the immediate of the second slot, or 0 if there is no second slot
abbrev pub second_imm : Option Slot → ℕ
second_imm None = 0
second_imm (Some t) = t.imm

-- a move from a register; if the offset is not 0, the move extends the sign from that many bits
abbrev pub register_move : Width → Slot → Insn
register_move w s = if s.offset == 0 then insn.Alu w op.Mov s.dst (Reg s.src) else insn.MovSx w (bits_of s.offset) s.dst s.src

-- an operation on the immediate or on a register
abbrev pub alu_of : Width → Operation → Bool → Slot → Insn
alu_of w o false s = insn.Alu w (variant o s.offset) s.dst (Imm (signed32 s.imm))
alu_of w op.Mov true s = register_move w s
alu_of w o true s = insn.Alu w (variant o s.offset) s.dst (Reg s.src)

-- the instruction that a slot of this form spells, with the slot after it if there is one
abbrev pub insn_of : Form → Slot → Option Slot → Insn
insn_of (form.Alu w o by_register) s next = alu_of w o by_register s
insn_of (form.Neg w) s next = insn.Neg w s.dst
insn_of (form.End order) s next = insn.End order (bits_of s.imm) s.dst
insn_of (form.Load size signed) s next = insn.Load size signed s.dst s.src (signed16 s.offset)
insn_of (form.StoreImm size) s next = insn.StoreImm size s.dst (signed16 s.offset) (signed32 s.imm)
insn_of (form.StoreReg size) s next = insn.StoreReg size s.dst (signed16 s.offset) s.src
insn_of form.Wide s next = if s.src == 5 then insn.MapRef s.dst (signed32 s.imm) else insn.Imm64 s.dst (s.imm + 2 ^ 32 * second_imm next)
insn_of form.Goto s next = insn.Goto (signed16 s.offset)
insn_of form.Goto32 s next = insn.Goto32 (signed32 s.imm)
insn_of (form.Branch w c false) s next = insn.Branch w c s.dst (Imm (signed32 s.imm)) (signed16 s.offset)
insn_of (form.Branch w c true) s next = insn.Branch w c s.dst (Reg s.src) (signed16 s.offset)
insn_of form.Call s next = insn.Call (signed32 s.imm)
insn_of form.Exit s next = insn.Exit
