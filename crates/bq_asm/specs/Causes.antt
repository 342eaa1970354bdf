-- The numbers of what is wrong with a text, and how a fault is written.
use Rattle.std.specs.Prelude.{ℕ, List, codes}
use Rattle.bq_insn.specs.Causes.{cause_and_place}
use Rattle.bq_asm.specs.declared.fault.AssemblyCause.{AssemblyCause}
use Rattle.bq_asm.specs.declared.fault.AssemblyCause.TheVariants.{Word, Number, LabelTwice, LabelMissing, Slots}
use Rattle.bq_asm.specs.declared.fault.AsmFault.{AsmFault}
use Rattle.bq_asm.specs.declared.fault.AsmFault.TheVariants.{At, OutOfMemory}

-- the number of a cause, after the letter A
abbrev pub assembly_cause_number : AssemblyCause → ℕ
assembly_cause_number Word = 1
assembly_cause_number Number = 2
assembly_cause_number LabelTwice = 3
assembly_cause_number LabelMissing = 4
assembly_cause_number Slots = 5

-- the text of a fault: its cause and its line; lack of memory is no fault of the text and has a text of its own
abbrev pub assembly_fault_text : AsmFault → List ℕ
assembly_fault_text (At line cause) = cause_and_place (codes "A") (assembly_cause_number cause) line
assembly_fault_text OutOfMemory = codes "out of memory"
