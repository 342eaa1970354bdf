-- The reason for which an instruction is refused, by the cause and two of its fields (RFC 9669, sections 4.3 and 5.4).
use Rattle.std.specs.Prelude.{ℕ, ◌==◌, ◌||◌, if◌then◌else◌}
use Rattle.bq_insn.specs.declared.fault.DecodeCause.{DecodeCause}
use Rattle.bq_insn.specs.declared.fault.DecodeCause.TheVariants as cause
use Rattle.bq_import.specs.declared.reason.SlotReason.{SlotReason}
use Rattle.bq_import.specs.declared.reason.SlotReason.TheVariants as reason

-- 8d is a call through a register, and c3 and db are atomic
abbrev pub opcode_reason : ℕ → SlotReason
opcode_reason opcode =
    if opcode == 0x8d then reason.Register
    else if (opcode == 0xc3) || (opcode == 0xdb) then reason.Atomic
    else reason.Opcode

-- the reason by the source: in a call (85) the source 1 names a function of the program; a wide number (18) has other sources
-- for what a loader fills in
abbrev pub source_reason : ℕ → ℕ → SlotReason
source_reason opcode source =
    if opcode == 0x85 then (if source == 1 then reason.Function else reason.Kernel)
    else if opcode == 0x18 then reason.Filled
    else reason.Field

-- the reason for a cause, by the opcode and the source of the instruction
abbrev pub import_reason_of : DecodeCause → ℕ → ℕ → SlotReason
import_reason_of cause.Length opcode source = reason.Length
import_reason_of cause.Opcode opcode source = opcode_reason opcode
import_reason_of cause.Offset opcode source = source_reason opcode source
import_reason_of _ opcode source = reason.Field
