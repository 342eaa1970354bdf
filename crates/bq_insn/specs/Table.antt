-- The table of opcodes (RFC 9669, sections 3.3, 4 and 5). The low three bits of an opcode are its class. In arithmetic
-- and jumps the next bit says that the second operand is a register, and the high four bits are a code; in loads and
-- stores the next two bits are the size, and the high three the mode.
use Rattle.std.specs.Prelude.{ℕ, ◌+◌, ◌*◌, ◌/◌, ◌%◌, Bool, true, false, ◌==◌, Option, Some, None, option_map, if◌then◌else◌}
use Rattle.bq_insn.specs.declared.Width.{Width}
use Rattle.bq_insn.specs.declared.Width.TheVariants.{W32, W64}
use Rattle.bq_insn.specs.declared.Operation.{Operation}
use Rattle.bq_insn.specs.declared.Operation.TheVariants as op
use Rattle.bq_insn.specs.declared.Condition.{Condition}
use Rattle.bq_insn.specs.declared.Condition.TheVariants as cond
use Rattle.bq_insn.specs.declared.Order.TheVariants.{Little, Big, Swapped}
use Rattle.bq_insn.specs.declared.Size.{Size}
use Rattle.bq_insn.specs.declared.Size.TheVariants.{Byte, Half, Word, Double}
use Rattle.bq_insn.specs.declared.form.Form.{Form}
use Rattle.bq_insn.specs.declared.form.Form.TheVariants.{Alu, Neg, End, Load, StoreImm, StoreReg, Wide, Goto, Goto32, Branch, Call, Exit}

-- the classes of arithmetic, ALU and ALU64 (section 3.3)
abbrev pub alu_class : Width → ℕ
alu_class W32 = 4
alu_class W64 = 7

-- the classes of jumps, JMP and JMP32 (section 3.3)
abbrev pub jump_class : Width → ℕ
jump_class W64 = 5
jump_class W32 = 6

-- the codes of arithmetic (section 4.1). The signed division and remainder share the codes of the unsigned ones; the
-- offset tells them apart
abbrev pub code_of : Operation → ℕ
code_of op.Add = 0
code_of op.Sub = 1
code_of op.Mul = 2
code_of op.Div = 3
code_of op.Sdiv = 3
code_of op.Or = 4
code_of op.And = 5
code_of op.Lsh = 6
code_of op.Rsh = 7
code_of op.Rem = 9
code_of op.Srem = 9
code_of op.Xor = 0xa
code_of op.Mov = 0xb
code_of op.Arsh = 0xc

-- the codes of branches (section 4.3)
abbrev pub condition_code : Condition → ℕ
condition_code cond.Equal = 1
condition_code cond.Greater = 2
condition_code cond.GreaterEqual = 3
condition_code cond.AnyBit = 4
condition_code cond.NotEqual = 5
condition_code cond.SignedGreater = 6
condition_code cond.SignedGreaterEqual = 7
condition_code cond.Less = 0xa
condition_code cond.LessEqual = 0xb
condition_code cond.SignedLess = 0xc
condition_code cond.SignedLessEqual = 0xd

-- the sizes W, H, B and DW (section 5)
abbrev pub size_code : Size → ℕ
size_code Word = 0
size_code Half = 1
size_code Byte = 2
size_code Double = 3

-- K or X: whether the second operand is the immediate or a register (section 4)
abbrev pub source_bit : Bool → ℕ
source_bit by_register = if by_register then 8 else 0

-- the opcode of a form: arithmetic (section 4.1), byte orders (4.2), loads and stores in the modes MEM, 0x60, and MEMSX,
-- 0x80 (5.1, 5.2), wide instructions (5.4), jumps, calls and the exit (4.3)
abbrev pub opcode_of : Form → ℕ
opcode_of (Alu w o by_register) = alu_class w + source_bit by_register + 16 * code_of o
opcode_of (Neg w) = alu_class w + 0x80
opcode_of (End Little) = 0xd4
opcode_of (End Big) = 0xdc
opcode_of (End Swapped) = 0xd7
opcode_of (Load size signed) = 1 + 8 * size_code size + (if signed then 0x80 else 0x60)
opcode_of (StoreImm size) = 2 + 8 * size_code size + 0x60
opcode_of (StoreReg size) = 3 + 8 * size_code size + 0x60
opcode_of Wide = 0x18
opcode_of Goto = 0x05
opcode_of Goto32 = 0x06
opcode_of (Branch w c by_register) = jump_class w + source_bit by_register + 16 * condition_code c
opcode_of Call = 0x85
opcode_of Exit = 0x95

-- whether a form is in the table: the signed division and remainder are not, and no load extends the sign of eight
-- bytes
abbrev pub is_form : Form → Bool
is_form (Alu w op.Sdiv by_register) = false
is_form (Alu w op.Srem by_register) = false
is_form (Load Double true) = false
is_form f = true

-- The table read in the other direction, from the opcode to the form, as the decoder reads it. `OneTable` in Laws says
-- that both directions agree.

-- the operation of a code of arithmetic, unsigned for division and remainder; none if no operation has the code
abbrev pub operation_of : ℕ → Option Operation
operation_of n =
    if n == 0 then Some op.Add else if n == 1 then Some op.Sub else if n == 2 then Some op.Mul else if n == 3 then Some op.Div
    else if n == 4 then Some op.Or else if n == 5 then Some op.And else if n == 6 then Some op.Lsh else if n == 7 then Some op.Rsh
    else if n == 9 then Some op.Rem else if n == 10 then Some op.Xor else if n == 11 then Some op.Mov else if n == 12 then Some op.Arsh
    else None

-- the condition of a code of branches; none if no condition has the code
abbrev pub condition_of : ℕ → Option Condition
condition_of n =
    if n == 1 then Some cond.Equal else if n == 2 then Some cond.Greater else if n == 3 then Some cond.GreaterEqual else if n == 4 then Some cond.AnyBit
    else if n == 5 then Some cond.NotEqual else if n == 6 then Some cond.SignedGreater else if n == 7 then Some cond.SignedGreaterEqual
    else if n == 10 then Some cond.Less else if n == 11 then Some cond.LessEqual else if n == 12 then Some cond.SignedLess else if n == 13 then Some cond.SignedLessEqual
    else None

-- the size of a two-bit code
abbrev pub size_of_code : ℕ → Size
size_of_code n = if n == 0 then Word else if n == 1 then Half else if n == 2 then Byte else Double

-- byte orders, by class and source bit
abbrev pub end_form_of : Width → Bool → Option Form
end_form_of W32 false = Some (End Little)
end_form_of W32 true = Some (End Big)
end_form_of W64 false = Some (End Swapped)
end_form_of W64 true = None

-- arithmetic, by class, code and source bit
abbrev pub alu_form_of : Width → ℕ → Bool → Option Form
alu_form_of w code by_register =
    if code == 13 then end_form_of w by_register
    else if code == 8 then (if by_register then None else Some (Neg w))
    else option_map (λ o. Alu w o by_register) (operation_of code)

-- jumps, calls and exit, by class, code and source bit
abbrev pub jump_form_of : Width → ℕ → Bool → Option Form
jump_form_of W64 code by_register =
    if code == 0 then (if by_register then None else Some Goto)
    else if code == 8 then (if by_register then None else Some Call)
    else if code == 9 then (if by_register then None else Some Exit)
    else option_map (λ c. Branch W64 c by_register) (condition_of code)
jump_form_of W32 code by_register =
    if code == 0 then (if by_register then None else Some Goto32)
    else option_map (λ c. Branch W32 c by_register) (condition_of code)

-- loads, by size and mode; there is no sign-extended load of eight bytes
abbrev pub load_form_of : Size → ℕ → Option Form
load_form_of size mode =
    if mode == 3 then Some (Load size false)
    else if mode == 4 then (if size_code size == 3 then None else Some (Load size true))
    else None

-- the form of an opcode; none if the opcode is not in the table
abbrev pub form_of : ℕ → Option Form
form_of n =
    if n % 8 == 0 then (if n == 0x18 then Some Wide else None)
    else if n % 8 == 1 then load_form_of (size_of_code (n / 8 % 4)) (n / 32)
    else if n % 8 == 2 then (if n / 32 == 3 then Some (StoreImm (size_of_code (n / 8 % 4))) else None)
    else if n % 8 == 3 then (if n / 32 == 3 then Some (StoreReg (size_of_code (n / 8 % 4))) else None)
    else if n % 8 == 4 then alu_form_of W32 (n / 16) (n / 8 % 2 == 1)
    else if n % 8 == 5 then jump_form_of W64 (n / 16) (n / 8 % 2 == 1)
    else if n % 8 == 6 then jump_form_of W32 (n / 16) (n / 8 % 2 == 1)
    else alu_form_of W64 (n / 16) (n / 8 % 2 == 1)
