-- The numbers of what is wrong with bytes, and how a fault is written.
use Rattle.std.specs.Prelude.{ℕ, List, ◌++◌, codes}
use Rattle.std.specs.Fmt.{decimal}
use Rattle.bq_insn.specs.declared.fault.DecodeCause.{DecodeCause}
use Rattle.bq_insn.specs.declared.fault.DecodeCause.TheVariants.{Length, Opcode, Register, Field, Offset, Imm, WideCut}
use Rattle.bq_insn.specs.declared.fault.DecodeFault.{DecodeFault}
use Rattle.bq_insn.specs.declared.fault.DecodeFault.TheVariants.{At, OutOfMemory}

-- the number of a cause, after the letter I
abbrev pub decode_cause_number : DecodeCause → ℕ
decode_cause_number Length = 1
decode_cause_number Opcode = 2
decode_cause_number Register = 3
decode_cause_number Field = 4
decode_cause_number Offset = 5
decode_cause_number Imm = 6
decode_cause_number WideCut = 7

-- the text of a cause: its letter, its number, and the line or slot that has it
abbrev pub cause_and_place : List ℕ → ℕ → ℕ → List ℕ
cause_and_place letter number place = letter ++ (decimal number ++ (codes " " ++ decimal place))

-- the text of a fault: its cause and its slot; lack of memory is no fault of the bytes and has a text of its own
abbrev pub decode_fault_text : DecodeFault → List ℕ
decode_fault_text (At slot cause) = cause_and_place (codes "I") (decode_cause_number cause) slot
decode_fault_text OutOfMemory = codes "out of memory"
