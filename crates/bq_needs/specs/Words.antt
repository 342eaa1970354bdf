-- A need in words.
use Rattle.std.specs.Prelude.{◌≡◌, ℕ, zero, suc, ◌-◌, ◌==◌, ◌&&◌, ℤ, Bool, true, false, List, [], ◌++◌, Option, Some, None, codes, if◌then◌else◌, length, slice_index_or}
use Rattle.std.specs.Fmt.{decimal, signed_decimal}
use Rattle.bq_insn.specs.declared.Insn.{Insn}
use Rattle.bq_insn.specs.declared.Insn.TheVariants.{Alu, StoreReg, Branch}
use Rattle.bq_insn.specs.declared.Width.TheVariants.{W64}
use Rattle.bq_insn.specs.declared.Operation.TheVariants.{Add, Sub}
use Rattle.bq_bpf.specs.declared.shape.MapShape.{MapShape}
use Rattle.bq_states.specs.declared.abstract_state.ValueKind.{ValueKind}
use Rattle.bq_states.specs.declared.abstract_state.ValueKind.TheVariants as kind
use Rattle.bq_states.specs.declared.abstract_state.AbstractValue.{AbstractValue}
use Rattle.bq_states.specs.declared.abstract_state.AbstractState.{AbstractState}
use Rattle.bq_policy_file.specs.declared.policy_source.PolicySource.{PolicySource}
use Rattle.bq_needs.specs.declared.arguments.Argument.{Argument as Wanted}
use Rattle.bq_needs.specs.declared.needs.Need.{Need}
use Rattle.bq_needs.specs.declared.needs.Need.TheVariants.{Unknown, Address, Access, Number, Map, Argument, Answer, Unshown}
use Rattle.bq_needs.specs.declared.needs.Pointer.{Pointer}
use Rattle.bq_needs.specs.declared.memory_access.MemoryAccess.{MemoryAccess}
use Rattle.bq_needs.specs.Accesses.{DescribesBegin, access_text, lack_text, may_be_null, noun, pointer_register_text, verb}
use Rattle.bq_needs.specs.Arguments.{argument_register, wanted_text}
use Rattle.bq_needs.specs.Operands.{known_in}
use Rattle.bq_needs.specs.Texts.{known_text}

-- the name of a register, if it is named; `and` comes before it, unless it is the first
abbrev pub register_name_text : ℕ → Bool → Bool → List ℕ
register_name_text r is_first named = if named then (if is_first then codes " r" ++ decimal r else codes " and r" ++ decimal r) else []

-- the names of the marked registers among the first ones, this many
abbrev pub names_below : ℕ → List Bool → List ℕ
names_below zero registers = []
names_below (suc n) registers = names_below n registers ++ register_name_text n (length (names_below n registers) == 0) (slice_index_or registers n false)

-- nothing is known of it
abbrev pub unknown_here : List ℕ
unknown_here = codes ", of which nothing is known here"

-- the registers that are read and of which nothing is known
abbrev pub unknown_reads_text : List Bool → List ℕ
unknown_reads_text registers = codes "reads" ++ (names_below 11 registers ++ unknown_here)

-- an access by a register of which nothing is known
abbrev pub address_text : MemoryAccess → List ℕ
address_text a = verb a.writes ++ (codes " " ++ (decimal a.bytes ++ (codes " " ++ (noun a.bytes ++ (codes " at r" ++ (decimal a.register ++ unknown_here))))))

-- the text says what is accessed and where the access begins
abbrev pub DescribesAccess : List MapShape → MemoryAccess → AbstractValue → List ℕ → Type 0
DescribesAccess shapes a k text = (begin : List ℕ) × DescribesBegin shapes a k begin × (text ≡ access_text a begin)

-- the instruction adds to the register, takes from it, or adds it to a number, in 64 bits; a pointer allows this, unless it is
-- the reference of a map
abbrev pub moves : Insn → ℕ → Bool
moves (Alu W64 Add dst src) r = true
moves (Alu W64 Sub dst src) r = dst == r
moves insn r = false

-- what may be done with a pointer of the kind
abbrev pub kind_rule : ValueKind → List ℕ
kind_rule (kind.Map map) = codes "the reference of a map may be copied by mov64, and nothing may be added to it or taken from it"
kind_rule (kind.EntryOrNull map) = codes "the answer of a look-up may be copied by mov64; before its test no number may be added to it"
kind_rule other = codes "a pointer may be copied by mov64; a number may be added to it by add64, or taken from it by sub64"

-- what may be done with a pointer, if the instruction does something else with it; a test of an answer helps if the answer is
-- moved for the first time
abbrev pub other_rule : Insn → Pointer → List ℕ
other_rule insn p =
    if may_be_null p.known.kind && (p.known.offset.hi == 0 && moves insn p.register) then codes "test it first" else kind_rule p.known.kind

-- what may be done with a pointer, by the instruction that does something else with it
abbrev pub pointer_rule : Insn → Pointer → List ℕ
pointer_rule (StoreReg size dst off src) p = codes "a pointer is stored whole by stxdw, on the stack, at a multiple of 8 below r10"
pointer_rule (Branch w c dst src off) p = codes "of pointers only the answer of a look-up is compared, by jeq64 or jne64 with the number 0"
pointer_rule insn p = other_rule insn p

-- a pointer that is worked on
abbrev pub pointer_text : List MapShape → Pointer → Insn → List ℕ
pointer_text shapes pointer insn = codes "works on " ++ (pointer_register_text shapes pointer.register pointer.known ++ (codes "; " ++ pointer_rule insn pointer))

-- how many maps a program has, and their numbers
abbrev pub map_numbers_text : ℕ → List ℕ
map_numbers_text count =
    if count == 0 then codes "no maps"
    else if count == 1 then codes "1 map, number 0" else decimal count ++ (codes " maps, numbers 0 to " ++ decimal (count - 1))

-- a number that is no map's, and how many maps there are
abbrev pub map_text : ℤ → ℕ → List ℕ
map_text index count = codes "names map " ++ (signed_decimal index ++ (codes "; the program has " ++ map_numbers_text count))

-- what is known of an argument
abbrev pub here_text : List MapShape → ℕ → Option AbstractValue → List ℕ
here_text shapes r None = codes "nothing is known of r" ++ decimal r
here_text shapes r (Some k) = codes "r" ++ (decimal r ++ (codes " is " ++ known_text shapes k))

-- what is known of a register in an abstract state
abbrev pub register_here : List MapShape → AbstractState → ℕ → List ℕ
register_here shapes state r = here_text shapes r (known_in state r)

-- what a helper needs an argument to be, and what is known of it
abbrev pub argument_text : List MapShape → AbstractState → ℤ → Wanted → List ℕ
argument_text shapes state helper a =
    codes "calls helper " ++ (signed_decimal helper ++ (codes ", which wants " ++ (wanted_text a ++ (codes "; here " ++ register_here shapes state (argument_register a)))))

-- what is known of register 0 at an EXIT
abbrev pub answer_text : List MapShape → Option AbstractValue → List ℕ
answer_text shapes None = codes "ends, and nothing is known of r0, the answer"
answer_text shapes (Some k) = codes "ends, and r0, the answer, is " ++ (known_text shapes k ++ codes "; an answer is a number")

-- the text tells the need of the instruction
abbrev pub DescribesNeed : PolicySource → AbstractState → Insn → Need → List ℕ → Type 0
DescribesNeed p state insn (Unknown registers) text = text ≡ unknown_reads_text registers
DescribesNeed p state insn (Address a) text = text ≡ address_text a
DescribesNeed p state insn (Access a k lack) text = (described : List ℕ) × DescribesAccess p.form.shapes.items a k described × (text ≡ described ++ (codes "; " ++ lack_text p lack))
DescribesNeed p state insn (Number pointer) text = text ≡ pointer_text p.form.shapes.items pointer insn
DescribesNeed p state insn (Map index) text = text ≡ map_text index (length p.form.shapes.items)
DescribesNeed p state insn (Argument helper a) text = text ≡ argument_text p.form.shapes.items state helper a
DescribesNeed p state insn (Answer known) text = text ≡ answer_text p.form.shapes.items known
DescribesNeed p state insn Unshown text = text ≡ codes "is not shown to be safe"
