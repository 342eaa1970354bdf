-- What an instruction does to an abstract state: from every state of the old one it leads to a state of the new one. A
-- state is of an abstract state if the abstract state describes it.
use Rattle.std.specs.Prelude.{◌≡◌, ℕ, ℤ, ◌≢◌, ◌+◌, ◌*◌, ◌%◌, ◌^◌, ◌<◌, ◌≤◌, Bool, false, List, Option, Some, None, slice_index_or}
use Rattle.bq_insn.specs.declared.Insn.{Insn}
use Rattle.bq_insn.specs.Slots.{slots_of, byte_count}
use Rattle.bq_insn.specs.declared.Size.{Size}
use Rattle.bq_insn.specs.declared.Size.TheVariants.{Double}
use Rattle.bq_insn.specs.declared.Source.{Source}
use Rattle.bq_insn.specs.declared.Source.TheVariants.{Reg}
use Rattle.bq_bpf.specs.Meaning.{alu_result}
use Rattle.bq_bpf.specs.Instructions.{Leaves}
use Rattle.bq_bpf.specs.declared.shape.MapShape.{MapShape}
use Rattle.bq_bpf.specs.Memory.{Setting, State, Region, InStack, IsGood, Writes, stack_size, written}
use Rattle.bq_bpf.specs.declared.board.CounterCall.{CounterCall}
use Rattle.bq_bpf.specs.Counters.{answer_of}
use Rattle.bq_bpf.specs.Steps.{Does, Asks, called, address_of, low_bytes, next}
use Rattle.bq_ranges.specs.Within.{Within}
use Rattle.bq_ranges.specs.declared.range.Range.{Range}
use Rattle.bq_states.specs.Copies.{AreCopies, HasWord}
use Rattle.bq_states.specs.Relations.{Relates}
use Rattle.bq_states.specs.declared.relations.Related.{Related}
use Rattle.bq_states.specs.declared.relations.Relation.TheVariants.{Sum}
use Rattle.bq_states.specs.Certainty.{IsStoredAt, IsWord, Pointer, CertaintyHolds}
use Rattle.bq_states.specs.declared.abstract_state.ValueKind.{ValueKind}
use Rattle.bq_states.specs.declared.abstract_state.ValueKind.TheVariants.{Number, Stack}
use Rattle.bq_states.specs.declared.abstract_state.AbstractValue.{AbstractValue}
use Rattle.bq_states.specs.declared.abstract_state.AbstractState.{AbstractState}
use Rattle.bq_insn.specs.declared.Operation.{Operation}
use Rattle.bq_insn.specs.declared.Operation.TheVariants.{Add, Mov}
use Rattle.bq_insn.specs.declared.Width.{Width}
use Rattle.bq_insn.specs.declared.Width.TheVariants.{W64}
use Rattle.bq_states.specs.AbstractStates.{Contains, Describes, IsRegionOfKind, Suits}
use Rattle.bq_transfer.specs.declared.access.Location.{Location}

-- from every state of the old abstract state the instruction has a step, to a state of the new one at the next slot
abbrev pub Transfers : List MapShape → ℕ → Insn → AbstractState → AbstractState → Type 0
Transfers shapes context_length insn old new =
    (f : Setting) (s : State) → Suits shapes context_length f → Contains f old s → (t : State) × Does f insn s t × Contains f new t × (t.slot ≡ s.slot + slots_of insn)

-- the instruction transfers the old abstract state to the new one in every program, whatever its maps and its context
abbrev pub TransfersEverywhere : Insn → AbstractState → AbstractState → Type 0
TransfersEverywhere insn old new = (shapes : List MapShape) (context_length : ℕ) → Transfers shapes context_length insn old new

-- in every state of the old abstract state the instruction calls a counter, and for every answer the new abstract state
-- describes the state after the call
abbrev pub AsksFrom : Insn → AbstractState → AbstractState → Type 0
AsksFrom insn old new =
    (f : Setting) (s : State) (x : ℕ) → Contains f old s → x < 2 ^ 64 → (c : CounterCall) × (answer_of c ≡ x) × Asks insn s c × Contains f new (called s x)

-- in every state of the abstract state the register is set to a number below `bound`
abbrev pub IsBelow : AbstractState → ℕ → ℕ → Type 0
IsBelow state r bound = (f : Setting) (s : State) → Contains f state s → (n : ℕ) × (s.register r ≡ Some n) × (n < bound)

-- in every state of the abstract state the register is set to a number of the range
abbrev pub HoldsNumber : AbstractState → ℕ → Range → Type 0
HoldsNumber state r range = (f : Setting) (s : State) → Contains f state s → (n : ℕ) × (s.register r ≡ Some n) × Within range n

-- the access by register `r` is good: it is in a region of this kind, at an offset of the range
abbrev pub ReachesRegion : Setting → State → ℕ → ℤ → Size → ValueKind → Range → Type 0
ReachesRegion f s r off size kind at =
    (word : ℕ) × (region : Region) × (o : ℕ) × (s.register r ≡ Some word) × IsGood f (address_of word off) (byte_count size) region o × IsRegionOfKind kind region × Within at o

-- in every state of the abstract state the access by register `r` is good, in a region of this kind at an offset of the range
abbrev pub FindsPlace : List MapShape → ℕ → AbstractState → ℕ → ℤ → Size → ValueKind → Range → Type 0
FindsPlace shapes context_length state r off size kind at = (f : Setting) (s : State) → Suits shapes context_length f → Contains f state s → ReachesRegion f s r off size kind at

-- the access is to exactly the eight bytes of this slot of the stack
abbrev pub IsWholeSlot : Range → Size → ℕ → Type 0
IsWholeSlot at size slot = (slot < 64) × (size ≡ Double) × (at.lo ≡ 8 * slot) × (at.hi ≡ 8 * slot)

-- if a slot of the stack is given, it holds the word
abbrev pub SlotHolds : State → Option ℕ → ℕ → Type 0
SlotHolds s slot word = (n : ℕ) → slot ≡ Some n → HasWord s (11 + n) word

-- the new classes and relations are right about each state about which the old ones are, if the register holds a word there,
-- and the slot of the stack, if one is given, holds it too
abbrev pub LinksSlot : List ℕ → List (Option Related) → List ℕ → List (Option Related) → Option ℕ → ℕ → Type 0
LinksSlot old_classes old_related new_classes new_related slot register =
    (s : State) (word : ℕ) → AreCopies old_classes old_related s → s.register register ≡ Some word → SlotHolds s slot word → AreCopies new_classes new_related s

-- from every state of the old abstract state the low bytes of a word of `k` can be stored at the address; the new
-- abstract state describes the state after it, and the slot, if one is given, has the word
abbrev pub Stores : List MapShape → ℕ → ℕ → ℤ → Size → AbstractValue → AbstractState → AbstractState → Option ℕ → Type 0
Stores shapes context_length dst off size k old new slot =
    (f : Setting) (s : State) (v : ℕ) → Suits shapes context_length f → Contains f old s → Describes f.shapes k v
    → (a : ℕ) × (u : State) × (s.register dst ≡ Some a) × Writes f s (address_of a off) (low_bytes size v) u × Contains f new (next u)
    × (u.slot ≡ s.slot) × (u.register ≡ s.register) × SlotHolds u slot v

-- a write of the low bytes of a word of `k` to the stack, at an offset of the range, leads from every state of the old
-- abstract state to a state of the new one
abbrev pub WritesStack : AbstractState → AbstractState → Range → Size → AbstractValue → Type 0
WritesStack old new at size k =
    (f : Setting) (s : State) (o v : ℕ) → Contains f old s → Within at o → Describes f.shapes k v → Contains f new (next (written s InStack o (low_bytes size v)))

-- the new abstract state knows that as many bytes as the size says were stored from `place` on
abbrev pub IsStored : AbstractState → AbstractState → Size → ℕ → Type 0
IsStored old new size place = IsStoredAt old new place (place + byte_count size)

-- if the word is a number and the range is one offset, from which as many bytes as the size says are inside the stack, then
-- `holds` is true of that offset
abbrev pub IfNumberInside : AbstractValue → Range → Size → (ℕ → Type 0) → Type 0
IfNumberInside word at size holds = word.kind ≡ Number → (place : ℕ) → at.lo ≡ place → at.hi ≡ place → place + byte_count size ≤ stack_size → holds place

-- the load is an unsigned load of a whole slot of the stack, and the abstract state keeps this word in the slot
abbrev pub LoadsKept : AbstractState → Location → Size → Bool → AbstractValue → Type 0
LoadsKept state p size signed word =
    (p.kind ≡ Stack) × (size ≡ Double) × (signed ≡ false) × (p.at.lo ≡ p.at.hi) × (slot : ℕ) × (slot < 64) × (p.at.lo ≡ 8 * slot) × (slice_index_or state.kept slot None ≡ Some word)

-- whatever words `a` and `b` describe, `k` describes what the operation makes of them
abbrev pub DescribesResult : Width → Operation → AbstractValue → AbstractValue → AbstractValue → Type 0
DescribesResult w op a b k = (shapes : List MapShape) (x y : ℕ) → Describes shapes a x → Describes shapes b y → Describes shapes k (alu_result w op x y)

-- whatever words `a` and `b` describe, the operation makes of them the first plus `more`, modulo 2^64
abbrev pub AddsConstant : Width → Operation → AbstractValue → AbstractValue → ℕ → Type 0
AddsConstant w op a b more = (shapes : List MapShape) (x y : ℕ) → Describes shapes a x → Describes shapes b y → alu_result w op x y ≡ (x + more) % 2 ^ 64

-- the new classes and relations are right about each state about which the old ones are, if the register holds a word there
-- that is the sum of the word of the class and `more`; class 0 is no class and asks for nothing
abbrev pub RelatesSum : List ℕ → List (Option Related) → List ℕ → List (Option Related) → ℕ → ℕ → ℕ → Type 0
RelatesSum old_classes old_related new_classes new_related register class more =
    (s : State) (a : ℕ) (was : AreCopies old_classes old_related s) → s.register register ≡ Some a → (class ≢ 0 → Relates (Sum more) a (was.0 class)) → AreCopies new_classes new_related s

-- if one operand is surely a stack pointer at `base` and the other surely the number `word`, their 64-bit sum is surely
-- the stack pointer at the sum
abbrev pub MovesPointer : Width → Operation → Option AbstractValue → Option AbstractValue → Option AbstractValue → Type 0
MovesPointer w op a b sum =
    (base word : ℕ) → w ≡ W64 → op ≡ Add → CertaintyHolds (Pointer Stack base) a → IsWord word b → CertaintyHolds (Pointer Stack (alu_result W64 Add base word)) sum

-- control only goes on to the next instruction
abbrev pub IsStraight : Insn → Type 0
IsStraight insn = (slot : ℕ) → Leaves insn slot (slot + slots_of insn)

-- register `dst` holds what a MOV of this width makes of register `r`, whose word `k` describes
pub record IsCopied (s : State) (dst r : ℕ) (width : Width) (k : AbstractValue) : Type 0 where
  pub shapes : List MapShape
  pub word : ℕ
  pub from_is : s.register r ≡ Some word
  pub described : Describes shapes k word
  pub to_is : s.register dst ≡ Some (alu_result width Mov 0 word)

-- the new classes and relations are right about each state about which the old ones are, if register `dst` holds there what a
-- MOV of this width makes of the operand, where that is another register
abbrev pub LinksCopy : List ℕ → List (Option Related) → List ℕ → List (Option Related) → Width → ℕ → Source → AbstractValue → Type 0
LinksCopy old_classes old_related new_classes new_related width dst src k =
    (s : State) → AreCopies old_classes old_related s → ((r : ℕ) → src ≡ Reg r → r ≢ dst → IsCopied s dst r width k) → AreCopies new_classes new_related s
