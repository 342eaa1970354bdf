-- What the fields of each form are for (RFC 9669, section 3.1: unused fields are zero).
use Rattle.std.specs.Prelude.{Bool, if◌then◌else◌}
use Rattle.bq_insn.specs.declared.Operation.{Operation}
use Rattle.bq_insn.specs.declared.Operation.TheVariants as op
use Rattle.bq_insn.specs.declared.form.Form.{Form}
use Rattle.bq_insn.specs.declared.form.Form.TheVariants.{Alu, Neg, End, Load, StoreImm, StoreReg, Wide, Goto, Goto32, Branch, Call, Exit}
use Rattle.bq_insn.specs.declared.uses.Use.{Use}
use Rattle.bq_insn.specs.declared.uses.Use.TheVariants.{Unused, Register, Value}
use Rattle.bq_insn.specs.declared.uses.Uses.{Uses}

-- what the source field is for: it names the second operand's register if the opcode says so, else it is unused
abbrev pub src_use : Bool → Use
src_use by_register = if by_register then Register else Unused

-- what the immediate is for: it is unused if the second operand is a register
abbrev pub imm_use : Bool → Use
imm_use by_register = if by_register then Unused else Value

-- the offset of division, remainder and move names a variant (section 4.1); no other arithmetic has one
abbrev pub variant_use : Operation → Use
variant_use op.Div = Value
variant_use op.Rem = Value
variant_use op.Mov = Value
variant_use _ = Unused

-- what four fields are for: destination, source, offset and immediate
abbrev pub row : Use → Use → Use → Use → Uses
row dst src offset imm = record { dst = dst; src = src; offset = offset; imm = imm }

-- what the fields of a form are for; an unused field must be zero (section 3.1). The source field of a wide instruction
-- or a call names a kind (sections 5.4 and 4.3)
abbrev pub uses_of : Form → Uses
uses_of (Alu w o by_register) = row Register (src_use by_register) (variant_use o) (imm_use by_register)
uses_of (Neg w) = row Register Unused Unused Unused
uses_of (End order) = row Register Unused Unused Value
uses_of (Load size signed) = row Register Register Value Unused
uses_of (StoreImm size) = row Register Unused Value Value
uses_of (StoreReg size) = row Register Register Value Unused
uses_of Wide = row Register Value Unused Value
uses_of Goto = row Unused Unused Value Unused
uses_of Goto32 = row Unused Unused Unused Value
uses_of (Branch w c by_register) = row Register (src_use by_register) Value (imm_use by_register)
uses_of Call = row Unused Value Unused Value
uses_of Exit = row Unused Unused Unused Unused
