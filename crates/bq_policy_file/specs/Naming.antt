-- The names that faults of the parts have as faults of a policy, and the texts of those.
use Rattle.std.specs.Prelude.{ℕ, List, ◌++◌, codes}
use Rattle.std.specs.Fmt.{decimal}
use Rattle.bq_asm.specs.Causes.{assembly_fault_text as assembly_text}
use Rattle.bq_asm.specs.declared.fault.AsmFault.{AsmFault}
use Rattle.bq_asm.specs.declared.fault.AsmFault.TheVariants as assembly
use Rattle.bq_insn.specs.declared.fault.DecodeFault.{DecodeFault}
use Rattle.bq_insn.specs.declared.fault.DecodeFault.TheVariants as decode
use Rattle.bq_load.specs.declared.fault.LoadFault.{LoadFault}
use Rattle.bq_load.specs.declared.fault.LoadFault.TheVariants as load
use Rattle.bq_load.specs.Naming.{load_fault_text as image_text}
use Rattle.bq_policy_file.specs.declared.fault.HeadFault.{HeadFault}
use Rattle.bq_policy_file.specs.declared.fault.HeadFault.TheVariants as heads
use Rattle.bq_policy_file.specs.declared.fault.PolicyFault.{PolicyFault}
use Rattle.bq_policy_file.specs.declared.fault.PolicyFault.TheVariants.{Text, Hex, Head, Assembly, Image, Program, Disagrees, NoHook, OutOfMemory}
use Rattle.bq_policy_file.specs.Marks.{key_word}

-- the fault of a policy for a fault of its head
abbrev pub of_head : HeadFault → PolicyFault
of_head (heads.At line cause) = Head line cause
of_head heads.OutOfMemory = OutOfMemory

-- the fault of a policy for a fault of its assembler text
abbrev pub of_assembly : AsmFault → PolicyFault
of_assembly (assembly.At line cause) = Assembly line cause
of_assembly assembly.OutOfMemory = OutOfMemory

-- the fault of a policy for a fault of its image
abbrev pub of_image : LoadFault → PolicyFault
of_image load.OutOfMemory = OutOfMemory
of_image named = Image named

-- the fault of a policy for a fault of its program's bytes
abbrev pub policy_fault_of_program : DecodeFault → PolicyFault
policy_fault_of_program (decode.At slot cause) = Program slot cause
policy_fault_of_program decode.OutOfMemory = OutOfMemory

-- the answer that says why a file is no policy, with the text of the fault of its part. If memory runs out, that is no fault of the file
abbrev pub policy_fault_text : PolicyFault → List ℕ
policy_fault_text Text = codes "text"
policy_fault_text Hex = codes "hex"
policy_fault_text (Head line cause) = codes "head " ++ decimal line
policy_fault_text (Assembly line cause) = assembly_text (assembly.At line cause)
policy_fault_text (Image named) = image_text named
policy_fault_text (Program slot cause) = image_text (load.Decode slot cause)
policy_fault_text (Disagrees key) = key_word key
policy_fault_text NoHook = codes "hook"
policy_fault_text OutOfMemory = codes "out of memory"
