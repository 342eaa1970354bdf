-- How instructions are spelled as bytes (RFC 9669, section 3): slots of eight bytes with an opcode, two registers, an
-- offset and an immediate, all numbers little-endian. A wide instruction takes two slots.
use Rattle.std.specs.Prelude.{◌≡◌, ℕ, ◌+◌, ◌*◌, ◌/◌, ◌%◌, ◌^◌, ℤ, Bool, true, false, ◌&&◌, nat_le, List, [], ◌∷◌, ◌++◌, length, Option, option_to_list}
use Rattle.std.specs.Int.{w16, w32, to_le_bytes, cast_unsigned}
use Rattle.std.specs.List.{flat_map, list_all}
use Rattle.bq_insn.specs.declared.Width.TheVariants.{W64}
use Rattle.bq_insn.specs.declared.Operation.{Operation}
use Rattle.bq_insn.specs.declared.Operation.TheVariants as op
use Rattle.bq_insn.specs.declared.Source.{Source}
use Rattle.bq_insn.specs.declared.Source.TheVariants.{Imm, Reg}
use Rattle.bq_insn.specs.declared.Bits.{Bits}
use Rattle.bq_insn.specs.declared.Bits.TheVariants.{B8, B16, B32, B64}
use Rattle.bq_insn.specs.declared.Size.TheVariants.{Double}
use Rattle.bq_insn.specs.declared.Insn.{Insn}
use Rattle.bq_insn.specs.declared.Insn.TheVariants.{Alu, MovSx, Neg, End, Load, StoreImm, StoreReg, Imm64, MapRef, Goto, Goto32, Branch, Call, Exit}
use Rattle.bq_insn.specs.declared.form.Form.TheVariants as form
use Rattle.bq_insn.specs.declared.slot.Slot.{Slot}
use Rattle.bq_insn.specs.Table.{opcode_of}
use Rattle.bq_insn.specs.declared.TheConstants.{SLOTS}

-- the eight bytes of a slot (section 3.1)
abbrev pub slot_bytes : Slot → List ℕ
slot_bytes s = s.opcode ∷ (s.dst + 16 * s.src) ∷ (to_le_bytes w16 s.offset ++ to_le_bytes w32 s.imm)

-- a slot made of its opcode, registers, offset and immediate
abbrev pub slot : ℕ → ℕ → ℕ → ℕ → ℕ → Slot
slot opcode dst src offset imm = record { opcode = opcode; dst = dst; src = src; offset = offset; imm = imm }

-- the offset that names a variant: 1 for a signed division or remainder, 0 for every other operation (section 4.1)
abbrev pub variant_of : Operation → ℕ
variant_of op.Sdiv = 1
variant_of op.Srem = 1
variant_of o = 0

-- the number that a `Bits` names
abbrev pub bits_number : Bits → ℕ
bits_number B8 = 8
bits_number B16 = 16
bits_number B32 = 32
bits_number B64 = 64

-- the bits of a signed number in a field of 16 bits
abbrev pub word16 : ℤ → ℕ
word16 z = cast_unsigned w16 z

-- the bits of a signed number in a field of 32 bits
abbrev pub word32 : ℤ → ℕ
word32 z = cast_unsigned w32 z

-- the slots that spell an instruction; an unused field is written as 0
abbrev pub spelled : Insn → List Slot
-- arithmetic (section 4.1); the offset tells the signed variants, and the moves that extend the sign
spelled (Alu w o d (Imm n)) = slot (opcode_of (form.Alu w o false)) d 0 (variant_of o) (word32 n) ∷ []
spelled (Alu w o d (Reg s)) = slot (opcode_of (form.Alu w o true)) d s (variant_of o) 0 ∷ []
spelled (MovSx w b d s) = slot (opcode_of (form.Alu w op.Mov true)) d s (bits_number b) 0 ∷ []
spelled (Neg w d) = slot (opcode_of (form.Neg w)) d 0 0 0 ∷ []
-- byte orders (section 4.2), the width in the immediate
spelled (End order b d) = slot (opcode_of (form.End order)) d 0 0 (bits_number b) ∷ []
-- loads and stores (sections 5.1 and 5.2)
spelled (Load size signed d s off) = slot (opcode_of (form.Load size signed)) d s (word16 off) 0 ∷ []
spelled (StoreImm size d off n) = slot (opcode_of (form.StoreImm size)) d 0 (word16 off) (word32 n) ∷ []
spelled (StoreReg size d off s) = slot (opcode_of (form.StoreReg size)) d s (word16 off) 0 ∷ []
-- wide instructions (sections 3.2 and 5.4): source 0 is a number in two halves, source 5 a map by its index (5.4.1)
spelled (Imm64 d v) = slot (opcode_of form.Wide) d 0 0 (v % 2 ^ 32) ∷ slot 0 0 0 0 (v / 2 ^ 32) ∷ []
spelled (MapRef d i) = slot (opcode_of form.Wide) d 5 0 (word32 i) ∷ slot 0 0 0 0 0 ∷ []
-- jumps (section 4.3), calls of helpers (4.3.1) and the exit
spelled (Goto off) = slot (opcode_of form.Goto) 0 0 (word16 off) 0 ∷ []
spelled (Goto32 n) = slot (opcode_of form.Goto32) 0 0 0 (word32 n) ∷ []
spelled (Branch w c d (Imm n) off) = slot (opcode_of (form.Branch w c false)) d 0 (word16 off) (word32 n) ∷ []
spelled (Branch w c d (Reg s) off) = slot (opcode_of (form.Branch w c true)) d s (word16 off) 0 ∷ []
spelled (Call helper) = slot (opcode_of form.Call) 0 0 0 (word32 helper) ∷ []
spelled Exit = slot (opcode_of form.Exit) 0 0 0 0 ∷ []

-- the bytes of an instruction
abbrev pub insn_bytes : Insn → List ℕ
insn_bytes insn = flat_map slot_bytes (spelled insn)

-- the bytes of a program
abbrev pub spelling : List Insn → List ℕ
spelling insns = flat_map insn_bytes insns

-- how many slots a program takes
abbrev pub slot_count : List Insn → ℕ
slot_count insns = length (flat_map spelled insns)

-- whether the number is a register: R0 to R10
abbrev pub is_register : ℕ → Bool
is_register r = nat_le r 10

-- whether an operand is a number or a register that exists
abbrev pub is_source : Source → Bool
is_source (Imm n) = true
is_source (Reg r) = is_register r

-- registers and widths are in range: a move extends the sign from fewer bits than the width has, a byte order has 16,
-- 32 or 64 bits, and a load that extends the sign moves fewer than eight bytes
abbrev pub is_insn : Insn → Bool
is_insn (Alu w o d src) = is_register d && is_source src
is_insn (MovSx w B8 d s) = is_register d && is_register s
is_insn (MovSx w B16 d s) = is_register d && is_register s
is_insn (MovSx W64 B32 d s) = is_register d && is_register s
is_insn (MovSx w b d s) = false
is_insn (Neg w d) = is_register d
is_insn (End order B8 d) = false
is_insn (End order b d) = is_register d
is_insn (Load Double true d s off) = false
is_insn (Load size signed d s off) = is_register d && is_register s
is_insn (StoreImm size d off n) = is_register d
is_insn (StoreReg size d off s) = is_register d && is_register s
is_insn (Imm64 d v) = is_register d
is_insn (MapRef d i) = is_register d
is_insn (Branch w c d src off) = is_register d && is_source src
is_insn insn = true

-- whether a list is a program: all instructions are in range, and together they take 1 to `SLOTS` slots
abbrev pub is_well_formed : List Insn → Bool
is_well_formed insns = list_all is_insn insns && (nat_le 1 (slot_count insns) && nat_le (slot_count insns) SLOTS)

-- the list is this slot, followed by the second slot if there is one
abbrev pub AreSlots : (Slot × Option Slot) → List Slot → Type 0
AreSlots pair slots = slots ≡ pair.0 ∷ option_to_list pair.1
