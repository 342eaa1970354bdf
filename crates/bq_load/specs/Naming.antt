-- How a fault of the program or a refusal of the verifier becomes a fault of the image, and the texts of faults.
use Rattle.std.specs.Prelude.{ℕ, List, ◌++◌, codes}
use Rattle.bq_insn.specs.Causes.{cause_and_place, decode_fault_text as program_text}
use Rattle.bq_verify.specs.Causes.{cause_number as refusal_number}
use Rattle.bq_insn.specs.declared.fault.DecodeFault.{DecodeFault}
use Rattle.bq_insn.specs.declared.fault.DecodeFault.TheVariants as program
use Rattle.bq_verify.specs.declared.refused.Refused.{Refused}
use Rattle.bq_verify.specs.declared.refused.Refused.TheVariants as refused
use Rattle.bq_load.specs.declared.fault.LoadFault.{LoadFault}
use Rattle.bq_load.specs.declared.fault.LoadFault.TheVariants as fault

-- a fault of the program as a fault of the image
abbrev pub load_fault_of_program : DecodeFault → LoadFault
load_fault_of_program (program.At slot cause) = fault.Decode slot cause
load_fault_of_program program.OutOfMemory = fault.OutOfMemory

-- a refusal of the verifier as a fault of the image
abbrev pub load_fault_of_refusal : Refused → LoadFault
load_fault_of_refusal (refused.At slot cause) = fault.Refused slot cause
load_fault_of_refusal refused.OutOfMemory = fault.OutOfMemory

-- the text of a fault: its number after the letter L, and for a program that is faulty or refused the cause and the
-- slot. Lack of memory is no fault of the image and has a text of its own
abbrev pub load_fault_text : LoadFault → List ℕ
load_fault_text fault.Magic = codes "L1"
load_fault_text fault.Version = codes "L2"
load_fault_text fault.Hook = codes "L3"
load_fault_text fault.Shape = codes "L4"
load_fault_text fault.Cut = codes "L5"
load_fault_text fault.Rest = codes "L6"
load_fault_text (fault.Decode slot cause) = codes "L7 " ++ program_text (program.At slot cause)
load_fault_text (fault.Refused slot cause) = cause_and_place (codes "L8 V") (refusal_number cause) slot
load_fault_text fault.OutOfMemory = codes "out of memory"
