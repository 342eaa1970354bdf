-- What is wrong with the instruction that begins at a slot, and which slot of a program is named. RFC 9669 gives the
-- opcodes (sections 4 and 5), the rule that unused fields are zero (3.1, 3.2), and what offsets and immediates name.
-- This project adds two rules. The answer names the least faulty slot and the least of its causes, in the order Opcode,
-- Register, Field, Offset, Imm, WideCut. A program has at most 4096 slots.
use Rattle.std.specs.Prelude.{◌≡◌, ℕ, ◌*◌, ◌%◌, ◌^◌, ◌<◌, ◌≤◌, Bool, true, false, not, ◌||◌, ◌&&◌, ◌==◌, nat_lt, nat_le, List, ◌++◌, length, drop, Option, Some, None, if◌then◌else◌}
use Rattle.std.specs.List.{list_all}
use Rattle.bq_insn.specs.declared.Insn.{Insn}
use Rattle.bq_insn.specs.declared.Width.{Width}
use Rattle.bq_insn.specs.declared.Width.TheVariants.{W32, W64}
use Rattle.bq_insn.specs.declared.Operation.{Operation}
use Rattle.bq_insn.specs.declared.Operation.TheVariants as op
use Rattle.bq_insn.specs.declared.form.Form.{Form}
use Rattle.bq_insn.specs.declared.form.Form.TheVariants as form
use Rattle.bq_insn.specs.declared.uses.Use.{Use}
use Rattle.bq_insn.specs.declared.uses.Use.TheVariants.{Unused, Register}
use Rattle.bq_insn.specs.declared.uses.Uses.{Uses}
use Rattle.bq_insn.specs.declared.slot.Slot.{Slot}
use Rattle.bq_insn.specs.declared.fault.DecodeCause.{DecodeCause}
use Rattle.bq_insn.specs.declared.fault.DecodeCause.TheVariants as cause
use Rattle.bq_insn.specs.declared.fault.DecodeFault.{DecodeFault}
use Rattle.bq_insn.specs.declared.fault.DecodeFault.TheVariants.{At, OutOfMemory}
use Rattle.bq_insn.specs.Table.{form_of}
use Rattle.bq_insn.specs.Uses.{uses_of}
use Rattle.bq_insn.specs.Spelling.{slot_bytes, spelling, slot_count, is_insn, insn_bytes, is_well_formed}
use Rattle.bq_insn.specs.Slots.{slots_of}
use Rattle.bq_insn.specs.Laws.{Fits, AllFit}

-- the field should name a register, but its number is over 10
abbrev pub is_no_register : Use → ℕ → Bool
is_no_register Register r = nat_lt 10 r
is_no_register _ r = false

-- the field is unused, but is not zero
abbrev pub is_stray : Use → ℕ → Bool
is_stray Unused n = nat_lt 0 n
is_stray _ n = false

-- cause Register: the destination or the source field should name a register, but names none
abbrev pub has_bad_register : Uses → Slot → Bool
has_bad_register u s = is_no_register u.dst s.dst || is_no_register u.src s.src

-- cause Field: one of the four fields is unused, but is not zero
abbrev pub has_stray_field : Uses → Slot → Bool
has_stray_field u s = is_stray u.dst s.dst || (is_stray u.src s.src || (is_stray u.offset s.offset || is_stray u.imm s.imm))

-- cause Field in the second slot of a wide instruction: a field other than the immediate is not zero, or, after a map
-- reference, the immediate is not
abbrev pub has_stray_second : Form → Slot → Option Slot → Bool
has_stray_second form.Wide s (Some t) =
    nat_lt 0 t.opcode || (nat_lt 0 t.dst || (nat_lt 0 t.src || (nat_lt 0 t.offset || ((s.src == 5) && nat_lt 0 t.imm))))
has_stray_second f s next = false

-- the offset names a variant of the operation. For a division or remainder 1 means signed. For a move from a register
-- 8, 16 and 32 are the bits whose sign is extended, fewer than the width has. 0 always means the plain operation
abbrev pub is_variant : Width → Operation → Bool → ℕ → Bool
is_variant w op.Div by_register n = nat_lt n 2
is_variant w op.Rem by_register n = nat_lt n 2
is_variant w op.Mov false n = n == 0
is_variant W32 op.Mov true n = (n == 0) || ((n == 8) || (n == 16))
is_variant W64 op.Mov true n = (n == 0) || ((n == 8) || ((n == 16) || (n == 32)))
is_variant w o by_register n = true

-- cause Offset: the offset names no variant, or the source field names no kind. A wide instruction has the kinds 0 and
-- 5, a call only 0
abbrev pub has_no_variant : Form → Slot → Bool
has_no_variant (form.Alu w o by_register) s = not (is_variant w o by_register s.offset)
has_no_variant form.Wide s = not ((s.src == 0) || (s.src == 5))
has_no_variant form.Call s = not (s.src == 0)
has_no_variant f s = false

-- cause Imm: the immediate of a byte order is not 16, 32 or 64
abbrev pub has_no_width : Form → Slot → Bool
has_no_width (form.End order) s = not ((s.imm == 16) || ((s.imm == 32) || (s.imm == 64)))
has_no_width f s = false

-- cause WideCut: a wide instruction has no second slot
abbrev pub is_cut : Form → Option Slot → Bool
is_cut form.Wide None = true
is_cut f next = false

-- the least cause at a slot of a known form, with the slot after it if there is one; none if there is no fault
abbrev pub cause_at_slot : Form → Slot → Option Slot → Option DecodeCause
cause_at_slot f s next =
    if has_bad_register (uses_of f) s then Some cause.Register
    else if has_stray_field (uses_of f) s || has_stray_second f s next then Some cause.Field
    else if has_no_variant f s then Some cause.Offset
    else if has_no_width f s then Some cause.Imm
    else if is_cut f next then Some cause.WideCut
    else None

-- the least cause, by the form that the opcode has: without a form it is Opcode
abbrev pub cause_of_form : Option Form → Slot → Option Slot → Option DecodeCause
cause_of_form None s next = Some cause.Opcode
cause_of_form (Some f) s next = cause_at_slot f s next

-- the least cause at a slot, with the slot after it if there is one; none if there is no fault
abbrev pub cause_of : Slot → Option Slot → Option DecodeCause
cause_of s next = cause_of_form (form_of s.opcode) s next

-- the numbers of a slot fit its fields
pub record IsSlot (s : Slot) : Type 0 where
  pub opcode : s.opcode < 2 ^ 8
  pub dst : s.dst < 16
  pub src : s.src < 16
  pub offset : s.offset < 2 ^ 16
  pub imm : s.imm < 2 ^ 32

-- the bytes begin with the first slot; the second slot follows if there is one, else the bytes end
abbrev pub BeginsWith : List ℕ → Slot → Option Slot → Type 0
BeginsWith bytes s None = bytes ≡ slot_bytes s
BeginsWith bytes s (Some t) = IsSlot t × (rest : List ℕ) × (bytes ≡ slot_bytes s ++ (slot_bytes t ++ rest))

-- the slot at the front of these bytes is faulty, and this is its least cause
pub record FrontHasCause (bytes : List ℕ) (cause : DecodeCause) : Type 0 where
  pub slot : Slot
  pub next : Option Slot
  pub is_slot : IsSlot slot
  pub begins : BeginsWith bytes slot next
  pub cause_is : cause_of slot next ≡ Some cause

-- all instructions before this slot are without a fault, and the one that begins at it has this least cause
pub record Faulty (bytes : List ℕ) (slot : ℕ) (cause : DecodeCause) : Type 0 where
  pub before : List Insn
  pub rest : List ℕ
  pub are_insns : list_all is_insn before ≡ true
  pub numbers : AllFit before
  pub slot_is : slot ≡ slot_count before
  pub bytes_are : bytes ≡ spelling before ++ rest
  pub front : FrontHasCause rest cause

-- whether the bytes are from 1 to 4096 whole slots
abbrev pub is_program_length : List ℕ → Bool
is_program_length bytes = (length bytes % 8 == 0) && (nat_le 1 (length bytes) && nat_le (length bytes) 32768)

-- the bytes have this fault; if memory ran out, nothing is said about them
abbrev pub IsDecodeFault : List ℕ → DecodeFault → Type 0
IsDecodeFault bytes OutOfMemory = Unit {0}
IsDecodeFault bytes (At slot cause.Length) = (slot ≡ 0) × (is_program_length bytes ≡ false)
IsDecodeFault bytes (At slot c) = (is_program_length bytes ≡ true) × Faulty bytes slot c

-- the bytes begin with the spelling of this instruction, which is in range
pub record HasFront (bytes : List ℕ) (insn : Insn) : Type 0 where
  pub is_insn : is_insn insn ≡ true
  pub numbers : Fits insn
  pub within : 8 * slots_of insn ≤ length bytes
  pub bytes_are : bytes ≡ insn_bytes insn ++ drop (8 * slots_of insn) bytes

-- no instruction in the bytes of a program is faulty
abbrev pub NoProgramIsFaulty : Type 0
NoProgramIsFaulty = (insns : List Insn) (slot : ℕ) (c : DecodeCause) → list_all is_insn insns ≡ true → AllFit insns → Faulty (spelling insns) slot c → ⊥

-- the bytes of a program have no fault, of length or of an instruction: they are refused only if memory runs out
abbrev pub NoProgramIsRefused : Type 0
NoProgramIsRefused = (insns : List Insn) (slot : ℕ) (c : DecodeCause) → is_well_formed insns ≡ true → AllFit insns → IsDecodeFault (spelling insns) (At slot c) → ⊥

-- bytes have at most one fault, with one slot and one cause
abbrev pub BytesHaveOneFault : Type 0
BytesHaveOneFault = (bytes : List ℕ) (s t : ℕ) (c d : DecodeCause) → IsDecodeFault bytes (At s c) → IsDecodeFault bytes (At t d) → (s ≡ t) × (c ≡ d)
