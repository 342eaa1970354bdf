-- Straight programs: every path to an instruction provides what the instruction needs, so that no obligation is left unproven.
use Rattle.std.specs.Prelude.{Bool, true, false, not, nat_lt, ◌≡◌, ◌≢◌, ℕ, ◌+◌, ◌<◌, ◌≤◌, ◌==◌, ◌&&◌, ◌||◌, ℤ, pos, ◌+ℤ◌, List, [], ◌∷◌, Option, Some, None, length, slice_get, ◌⊎◌}
use Rattle.std.specs.Ordering.{int_eq}
use Rattle.bq_insn.specs.declared.Insn.{Insn}
use Rattle.bq_insn.specs.declared.Insn.TheVariants.{Alu, MovSx, Neg, End, Load, StoreImm, StoreReg, Imm64, MapRef, Goto, Goto32, Branch, Call, Exit}
use Rattle.bq_insn.specs.declared.Operation.{Operation}
use Rattle.bq_insn.specs.declared.Operation.TheVariants.{Add, Mov}
use Rattle.bq_insn.specs.declared.Size.{Size}
use Rattle.bq_insn.specs.declared.Source.{Source}
use Rattle.bq_insn.specs.declared.Source.TheVariants.{Imm, Reg}
use Rattle.bq_insn.specs.declared.Width.{Width}
use Rattle.bq_insn.specs.declared.Width.TheVariants.{W64}
use Rattle.bq_insn.specs.Slots.{byte_count}
use Rattle.bq_bpf.specs.Meaning.{word_of}
use Rattle.bq_bpf.specs.declared.board.TheConstants.{COUNTERS}
use Rattle.bq_bpf.specs.declared.shape.MapShape.{MapShape}
use Rattle.bq_bpf.specs.Steps.{instruction_at}
use Rattle.bq_bpf.specs.Helpers.{number_of_helper}
use Rattle.bq_bpf.specs.declared.helper.Helper.TheVariants.{Lookup, Update, Now, Processor, AddCounter, ReadCounter}
use Rattle.bq_bpf.specs.Memory.{stack_size}
use Rattle.bq_verify.specs.Edges.{IsEdge}
use Rattle.bq_verify.specs.Paths.{IsPath, path_end}
use Rattle.bq_verify.specs.Faults.{IsFaultless}
use Rattle.bq_verify.specs.Subjects.{Subject}
use Rattle.bq_bpf.specs.Instructions.{destination_of}
use Rattle.bq_transfer.specs.Ready.{IsNullCheck}
use Rattle.bq_transfer.specs.After.{IsFoundSide, IsStackByte, LeavesPointer}
use Rattle.bq_states.specs.declared.abstract_state.ValueKind.{ValueKind}
use Rattle.bq_states.specs.declared.abstract_state.ValueKind.TheVariants.{Entry, EntryOrNull, Map, Stack}

-- whether something holds at the end of a path: the last instruction before the end made it true, or it was true before
-- that instruction, which left it true
abbrev pub held_along : List (Option Insn) → (Option Insn → Bool) → (Option Insn → Bool) → Bool → ℕ → List ℕ → Bool
held_along slots makes leaves before from [] = before
held_along slots makes leaves before from (next ∷ rest) =
    held_along slots makes leaves (makes (instruction_at slots from) || (leaves (instruction_at slots from) && before)) next rest

-- something holds at the slot on each path from the start
abbrev pub OnEachPath : List (Option Insn) → (Option Insn → Bool) → (Option Insn → Bool) → Bool → ℕ → Type 0
OnEachPath slots makes leaves first slot = (rest : List ℕ) → IsPath slots 0 rest → path_end 0 rest ≡ slot → held_along slots makes leaves first 0 rest ≡ true

-- whether the instruction writes this register
abbrev pub is_destination : Option ℕ → ℕ → Bool
is_destination None r = false
is_destination (Some dst) r = dst == r

-- in a straight program the instruction makes the register a number. A move does unless it copies register 10: by `Needs`, any other
-- register that it copies has a number. A call makes register 0 one unless it is a look-up. Each other instruction that writes the register
-- makes it one, except a map reference, and except the rest of `Alu`, which only keeps a number (`leaves`)
abbrev pub writes : ℕ → Option Insn → Bool
writes r None = false
writes r (Some (Alu w Mov dst (Imm i))) = dst == r
writes r (Some (Alu w Mov dst (Reg src))) = (dst == r) && not (src == 10)
writes r (Some (Alu w op dst src)) = false
writes r (Some (MapRef dst index)) = false
writes r (Some (Call helper)) = (r == 0) && not (int_eq helper (number_of_helper Lookup))
writes r (Some insn) = is_destination (destination_of insn) r

-- a register that holds a number still holds one after the instruction
abbrev pub leaves : ℕ → Option Insn → Bool
leaves r None = true
leaves r (Some (Alu w Mov dst src)) = not (dst == r)
leaves r (Some (Alu w op dst src)) = true
leaves r (Some (Call helper)) = nat_lt 5 r
leaves r (Some insn) = not (is_destination (destination_of insn) r)

-- the instruction leaves the register as it is: a call leaves registers from 6 on
abbrev pub spares : ℕ → Option Insn → Bool
spares r None = true
spares r (Some (Call helper)) = nat_lt 5 r
spares r (Some insn) = not (is_destination (destination_of insn) r)

-- the instruction moves exactly this number into the register
abbrev pub loads : ℕ → ℕ → Option Insn → Bool
loads r n (Some (Alu W64 Mov dst (Imm i))) = (dst == r) && (word_of i == n)
loads r n _ = false

-- the instruction leaves the register as it is, and is no branch with the register as its first operand
abbrev pub untouched : ℕ → Option Insn → Bool
untouched r (Some (Branch w c dst src off)) = not (dst == r)
untouched r insn = spares r insn

-- the instruction stores this many bytes at this offset from register 10
abbrev pub stores : Size → ℤ → Option Insn → Bool
stores size off (Some (StoreImm s dst o imm)) = (byte_count s == byte_count size) && ((dst == 10) && int_eq o off)
stores size off (Some (StoreReg s dst o src)) = (byte_count s == byte_count size) && ((dst == 10) && int_eq o off)
stores size off _ = false

-- every instruction: nothing that was true is lost
abbrev pub always : Option Insn → Bool
always insn = true

-- no instruction: nothing becomes true
abbrev pub never : Option Insn → Bool
never insn = false

-- on each path to the slot a number was written into the register, and the register has been a number since
abbrev pub IsWrittenOnEachPath : List (Option Insn) → ℕ → ℕ → Type 0
IsWrittenOnEachPath slots slot r = OnEachPath slots (writes r) (leaves r) false slot

-- on each path to the slot this many bytes were stored at this offset from register 10
abbrev pub IsStoredOnEachPath : List (Option Insn) → ℕ → Size → ℤ → Type 0
IsStoredOnEachPath slots slot size off = OnEachPath slots (stores size off) always false slot

-- byte `i` of the stack was stored on each path to the slot
abbrev pub IsByteStored : List (Option Insn) → ℕ → ℕ → Type 0
IsByteStored slots slot i = (size : Size) × (off : ℤ) × IsStoredOnEachPath slots slot size off × IsStackByte size off i

-- on each path to the slot this number was moved into the register; since then no instruction has written the register, and no branch
-- has had it as its first operand
abbrev pub IsLoaded : List (Option Insn) → ℕ → ℕ → ℕ → Type 0
IsLoaded slots slot r n = OnEachPath slots (loads r n) (untouched r) false slot

-- on each path to the slot register 1 was left as it was at the start
abbrev pub IsContextLeft : List (Option Insn) → ℕ → Type 0
IsContextLeft slots slot = OnEachPath slots never (spares 1) true slot

-- the second operand is an immediate, or a register that was written on each path
abbrev pub IsWrittenOperand : List (Option Insn) → ℕ → Source → Type 0
IsWrittenOperand slots slot (Imm i) = Unit {0}
IsWrittenOperand slots slot (Reg r) = IsWrittenOnEachPath slots slot r

-- the first operand was written on each path; a MOV has no first operand
abbrev pub IsWrittenLeft : Operation → List (Option Insn) → ℕ → ℕ → Type 0
IsWrittenLeft Mov slots slot dst = Unit {0}
IsWrittenLeft _ slots slot dst = IsWrittenOnEachPath slots slot dst

-- all bytes of an access at this offset from register 10 are on the stack
abbrev pub IsOnStack : Size → ℤ → Type 0
IsOnStack size off = (at : ℕ) × (pos at ≡ (pos stack_size +ℤ off)) × (at + byte_count size ≤ stack_size)

-- at most one edge leads to the slot
abbrev pub HasOneWay : List (Option Insn) → ℕ → Type 0
HasOneWay slots slot = (a b : ℕ) → IsEdge slots a slot → IsEdge slots b slot → a ≡ b

-- on the way from `slot` to the slot `to` the instruction makes the register this pointer, given what registers were
-- before: the reference of a map, a copy of register 10, a sum with a number, the answer of a look-up, or an entry on
-- the side of its test where the answer is not 0
abbrev pub MakesPointer : ValueKind → ℕ → ℕ → ℕ → ℕ → Option Insn → (ValueKind → ℕ → ℕ → Type 0) → Type 0
MakesPointer kind o r slot to (Some (MapRef dst index)) Was = (dst ≡ r) × (m : ℕ) × (index ≡ pos m) × (kind ≡ Map m) × (o ≡ 0)
MakesPointer kind o r slot to (Some (Alu w Mov dst (Reg src))) Was = (dst ≡ r) × (src ≡ 10) × (kind ≡ Stack) × (o ≡ stack_size)
MakesPointer kind o r slot to (Some (Alu w Add dst (Imm i))) Was = (dst ≡ r) × (base : ℕ) × Was kind base r × (pos o ≡ (pos base +ℤ i))
MakesPointer kind o r slot to (Some (Call helper)) Was = (r ≡ 0) × (helper ≡ number_of_helper Lookup) × (m : ℕ) × (kind ≡ EntryOrNull m) × (o ≡ 0) × Was (Map m) 0 1
MakesPointer kind o r slot to (Some (Branch w c dst src off)) Was = (dst ≡ r) × (m : ℕ) × (kind ≡ Entry m) × (o ≡ 0) × Was (EntryOrNull m) 0 r × IsFoundSide c off slot to
MakesPointer kind o r slot to _ Was = ⊥

-- the instruction leaves a pointer of this kind in the register; a test does not leave an untested answer of a look-up
abbrev pub LeavesPointerIn : ValueKind → ℕ → Option Insn → Type 0
LeavesPointerIn kind r None = ⊥
LeavesPointerIn kind r (Some insn) = (spares r (Some insn) ≡ true) × LeavesPointer kind insn

-- the register is this pointer at the slot. The list has the slots back to the instruction that made the pointer, and
-- only one edge leads to each slot on the way.
-- In `0: r1 = map 0; 2: r2 = r10; 3: r2 += -4; 4: call lookup; 5: if r0 == 0 goto +1; 6: ..` register 0 is an entry of map 0 at slot 6,
-- by 5 (the side on which it is not 0), 4 (the answer of a look-up by r1), 3 and 2 (which leave r1 as it is) and 0 (which names the map)
abbrev pub IsPointerFrom : List (Option Insn) → ValueKind → ℕ → ℕ → ℕ → List ℕ → Type 0
IsPointerFrom slots kind o r slot [] = ⊥
IsPointerFrom slots kind o r slot (before ∷ back) =
    HasOneWay slots slot × IsEdge slots before slot
    × (MakesPointer kind o r before slot (instruction_at slots before) (λ kind o r. IsPointerFrom slots kind o r before back)
    ⊎ (LeavesPointerIn kind r (instruction_at slots before) × IsPointerFrom slots kind o r before back))

-- the register is this pointer at the slot, by some list of slots back to where it was made
abbrev pub IsPointerAt : List (Option Insn) → ValueKind → ℕ → ℕ → ℕ → Type 0
IsPointerAt slots kind o r slot = (back : List ℕ) × IsPointerFrom slots kind o r slot back

-- the register points to an entry, and all bytes of the access are in the entry
pub record IsInEntry (slots : List (Option Insn)) (shapes : List MapShape) (slot r : ℕ) (size : Size) (off : ℤ) : Type 0 where
  pub map : ℕ
  pub shape : MapShape
  pub known : slice_get shapes map ≡ Some shape
  pub entry : IsPointerAt slots (Entry map) 0 r slot
  pub at : ℕ
  pub off_is : off ≡ pos at
  pub inside : at + byte_count size ≤ shape.value_size

-- all bytes of an access at this offset from register 10 are on the stack, and were stored on each path to the slot
abbrev pub IsReadBack : List (Option Insn) → ℕ → Size → ℤ → Type 0
IsReadBack slots slot size off =
    (at : ℕ) × (pos at ≡ (pos stack_size +ℤ off)) × (at + byte_count size ≤ stack_size) × ((i : ℕ) → at ≤ i → i < at + byte_count size → IsByteStored slots slot i)

-- what a load needs: it reads the context by register 1, stored stack bytes by register 10, or an entry
abbrev pub IsGoodLoad : List (Option Insn) → List MapShape → ℕ → ℕ → Size → ℕ → ℤ → Type 0
IsGoodLoad slots shapes context slot size src off =
    ((src ≡ 1) × IsContextLeft slots slot × (at : ℕ) × (off ≡ pos at) × (at + byte_count size ≤ context))
    ⊎ (((src ≡ 10) × IsReadBack slots slot size off) ⊎ IsInEntry slots shapes slot src size off)

-- what a store needs: it writes to the stack by register 10, or into an entry by another register
abbrev pub IsGoodStore : List (Option Insn) → List MapShape → ℕ → Size → ℕ → ℤ → Type 0
IsGoodStore slots shapes slot size dst off = ((dst ≡ 10) × IsOnStack size off) ⊎ ((dst ≢ 10) × IsInEntry slots shapes slot dst size off)

-- the instruction is a 64-bit move of register 10
abbrev pub IsCopyOfEnd : Width → Operation → Source → Type 0
IsCopyOfEnd w op src = (w ≡ W64) × (op ≡ Mov) × (src ≡ Reg 10)

-- the instruction adds an immediate to a pointer into the stack, and the sum still points into the stack or to its end
pub record IsMoveOnStack (slots : List (Option Insn)) (slot : ℕ) (w : Width) (op : Operation) (dst : ℕ) (src : Source) : Type 0 where
  pub whole : w ≡ W64
  pub is_sum : op ≡ Add
  pub distance : ℤ
  pub by_distance : src ≡ Imm distance
  pub base : ℕ
  pub from : IsPointerAt slots Stack base dst slot
  pub at : ℕ
  pub at_is : pos at ≡ (pos base +ℤ distance)
  pub below : base ≤ stack_size
  pub small : at ≤ stack_size

-- register 1 names a map, and register 2 points to four bytes on the stack that were stored
pub record IsEntryNamed (slots : List (Option Insn)) (slot map : ℕ) : Type 0 where
  pub names : IsPointerAt slots (Map map) 0 1 slot
  pub at : ℕ
  pub points : IsPointerAt slots Stack at 2 slot
  pub inside : at + 4 ≤ stack_size
  pub stored : (i : ℕ) → at ≤ i → i < at + 4 → IsByteStored slots slot i

-- what an update needs: all that `IsEntryNamed` says; register 3 points to as many stored bytes as a value has; and register 4 is 0
pub record IsGiving (slots : List (Option Insn)) (shapes : List MapShape) (slot map : ℕ) : Type 0 where
  pub naming : IsEntryNamed slots slot map
  pub shape : MapShape
  pub known : slice_get shapes map ≡ Some shape
  pub at : ℕ
  pub points : IsPointerAt slots Stack at 3 slot
  pub inside : at + shape.value_size ≤ stack_size
  pub stored : (i : ℕ) → at ≤ i → i < at + shape.value_size → IsByteStored slots slot i
  pub flags : IsLoaded slots slot 4 0

-- register 1 is the number of a counter, and for an add register 2 was written
pub record IsCounting (slots : List (Option Insn)) (slot : ℕ) (helper : ℤ) : Type 0 where
  pub counter : ℕ
  pub loaded : IsLoaded slots slot 1 counter
  pub few : counter < COUNTERS
  pub amount : helper ≡ number_of_helper AddCounter → IsWrittenOnEachPath slots slot 2

-- what a call needs, by its helper: nothing for the time and the processor, else what a look-up, an update or a counter needs
abbrev pub IsGoodCall : List (Option Insn) → List MapShape → ℕ → ℤ → Type 0
IsGoodCall slots shapes slot helper =
    ((helper ≡ number_of_helper Now) ⊎ (helper ≡ number_of_helper Processor))
    ⊎ ((helper ≡ number_of_helper Lookup) × (map : ℕ) × IsEntryNamed slots slot map)
    ⊎ ((helper ≡ number_of_helper Update) × (map : ℕ) × IsGiving slots shapes slot map)
    ⊎ (((helper ≡ number_of_helper AddCounter) ⊎ (helper ≡ number_of_helper ReadCounter)) × IsCounting slots slot helper)

-- what an instruction needs
abbrev pub Needs : List (Option Insn) → List MapShape → ℕ → ℕ → Insn → Type 0
Needs slots shapes context slot (Alu w op dst src) =
    (dst < 10) × ((IsWrittenLeft op slots slot dst × IsWrittenOperand slots slot src) ⊎ (IsCopyOfEnd w op src ⊎ IsMoveOnStack slots slot w op dst src))
Needs slots shapes context slot (MovSx w bits dst src) = (dst < 10) × IsWrittenOnEachPath slots slot src
Needs slots shapes context slot (Neg w dst) = (dst < 10) × IsWrittenOnEachPath slots slot dst
Needs slots shapes context slot (End order bits dst) = (dst < 10) × IsWrittenOnEachPath slots slot dst
Needs slots shapes context slot (Load size signed dst src off) = (dst < 10) × IsGoodLoad slots shapes context slot size src off
Needs slots shapes context slot (StoreImm size dst off imm) = IsGoodStore slots shapes slot size dst off
Needs slots shapes context slot (StoreReg size dst off src) = IsWrittenOnEachPath slots slot src × IsGoodStore slots shapes slot size dst off
Needs slots shapes context slot (Imm64 dst value) = dst < 10
Needs slots shapes context slot (MapRef dst index) = (dst < 10) × (map : ℕ) × (index ≡ pos map) × (map < length shapes)
Needs slots shapes context slot (Goto off) = Unit {0}
Needs slots shapes context slot (Goto32 imm) = Unit {0}
Needs slots shapes context slot (Branch w c dst src off) =
    (dst < 10) × ((IsWrittenOnEachPath slots slot dst × IsWrittenOperand slots slot src) ⊎ (IsNullCheck w c src × (map : ℕ) × IsPointerAt slots (EntryOrNull map) 0 dst slot))
Needs slots shapes context slot (Call helper) = IsGoodCall slots shapes slot helper
Needs slots shapes context slot Exit = IsWrittenOnEachPath slots slot 0

-- a straight program: its control graph has no fault, and each instruction has what it needs
pub record IsStraightProgram (p : Subject) : Type 0 where
  pub faultless : IsFaultless p.slots
  pub each : (slot : ℕ) (insn : Insn) → instruction_at p.slots slot ≡ Some insn → Needs p.slots p.shapes p.context slot insn

-- a program straight before a slot: its control graph has no fault anywhere, and each instruction before the slot has what it needs
pub record IsStraightBefore (p : Subject) (slot : ℕ) : Type 0 where
  pub faultless : IsFaultless p.slots
  pub before : (k : ℕ) (insn : Insn) → k < slot → instruction_at p.slots k ≡ Some insn → Needs p.slots p.shapes p.context k insn
