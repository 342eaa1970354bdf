-- One pass over the slots: what is known along the way, and why it makes the program safe. One abstract state is
-- transferred from slot to slot. Where ways part, the abstract state for the other way is boxed and waits at its slot.
use Rattle.std.specs.Prelude.{Bool, true, false, ◌≡◌, ◌≢◌, ℕ, zero, suc, ◌+◌, ◌^◌, ◌<◌, ◌≤◌, List, Option, Some, None, length, slice_index, slice_index_or, ◌⊎◌}
use Rattle.std.proofs.Common.{Global}
use Rattle.std.specs.declared.boxed.Box.{Box}
use Rattle.bq_insn.specs.declared.Insn.{Insn}
use Rattle.bq_insn.specs.declared.Width.{Width}
use Rattle.bq_insn.specs.declared.Condition.{Condition}
use Rattle.bq_insn.specs.declared.Source.{Source}
use Rattle.bq_bpf.specs.Meaning.{taken}
use Rattle.bq_bpf.specs.declared.board.CounterCall.{CounterCall}
use Rattle.bq_bpf.specs.Counters.{answer_of}
use Rattle.bq_bpf.specs.Memory.{Setting, State}
use Rattle.bq_bpf.specs.Steps.{IsOperand, instruction_at, Step, IsCounterCall}
use Rattle.bq_bpf.specs.Runs.{Ends}
use Rattle.bq_bpf.specs.Safe.{IsSetting, most_calls}
use Rattle.bq_bpf.specs.Instructions.{Leaves}
use Rattle.bq_insn.specs.declared.TheConstants.{SLOTS}
use Rattle.bq_bpf.specs.declared.shape.TheConstants.{MAPS}
use Rattle.bq_verify.specs.Edges.{IsEdge, IsStart}
use Rattle.bq_verify.specs.Passes.{IsGraphSound}
use Rattle.bq_verify.specs.Subjects.{Subject}
use Rattle.bq_states.specs.declared.abstract_state.AbstractValue.{AbstractValue}
use Rattle.bq_states.specs.declared.abstract_state.AbstractState.{AbstractState}
use Rattle.bq_states.specs.declared.relations.Relation.{Relation}
use Rattle.bq_bpf.specs.declared.shape.MapShape.{MapShape}
use Rattle.bq_transfer.specs.Ready.{WritesBelowFrame}
use Rattle.bq_states.specs.Learnt.{DescribesBranch}
use Rattle.bq_states.specs.AbstractStates.{Contains}

-- each height is above the heights of the slots to which its slot leads, and at least 1 at each instruction
pub record AreHeights (slots : List (Option Insn)) (heights : List ℕ) : Type 0 where
  pub fall : (from to : ℕ) → IsEdge slots from to → slice_index heights to < slice_index heights from
  pub positive : (slot : ℕ) (insn : Insn) → instruction_at slots slot ≡ Some insn → 1 ≤ slice_index heights slot

-- no instruction of the program writes register 10, the address of the stack's end
abbrev pub SparesFrame : List (Option Insn) → Type 0
SparesFrame slots = (slot : ℕ) (insn : Insn) → instruction_at slots slot ≡ Some insn → WritesBelowFrame insn

-- what the pass relies on: the control graph is sound, an instruction begins at slot 0, no instruction writes register
-- 10, and all is within the limits of images
pub record CanBePassed (p : Subject) : Type 0 where
  pub sound : IsGraphSound p.slots
  pub first : IsStart p.slots 0
  pub frame : SparesFrame p.slots
  pub short : length p.slots ≤ SLOTS
  pub few : length p.shapes ≤ MAPS
  pub small : p.context < 2 ^ 16

-- an edge of the control graph from a call of a counter
pub record IsAskingEdge (slots : List (Option Insn)) (from to : ℕ) : Type 0 where
  pub insn : Insn
  pub here : instruction_at slots from ≡ Some insn
  pub asks : IsCounterCall insn
  pub leaves : Leaves insn from to

-- `made slot` is at least the number of counter calls on each path to the slot, and below the limit at each slot that calls a
-- counter
pub record BoundsCalls (slots : List (Option Insn)) (made : ℕ → ℕ) : Type 0 where
  pub kept : (from to : ℕ) → IsEdge slots from to → made from ≤ made to
  pub risen : (from to : ℕ) → IsAskingEdge slots from to → made from < made to
  pub few : (from to : ℕ) → IsAskingEdge slots from to → made from < most_calls

-- for every answer of the counters, the program ends within n steps, and with the calls made before it stays within the
-- limit of calls
abbrev pub EndsWithin : Setting → State → ℕ → ℕ → Type 0
EndsWithin f s zero made = ⊥
EndsWithin f s (suc n) made =
    ((answer : ℕ) × Ends f s answer s.maps)
    ⊎ ((t : State) × Step f s None t × EndsWithin f t n made)
    ⊎ ((made < most_calls) × ((x : ℕ) → x < 2 ^ 64 → (c : CounterCall) × (t : State) × (answer_of c ≡ x) × Step f s (Some c) t × EndsWithin f t n (made + 1)))

-- there is a boxed abstract state, and it describes the machine state
abbrev pub IsDescribed : Setting → Option (Box AbstractState Global) → State → Type 0
IsDescribed f None s = ⊥
IsDescribed f (Some boxed) s = Contains f boxed.value s

-- for each slot the abstract state that waits there, if one does
abbrev pub Waiting : Type 0
Waiting = List (Option (Box AbstractState Global))

-- an abstract state waits at the slot of the machine state and describes it
abbrev pub WaitsBoxed : Setting → Waiting → State → Type 0
WaitsBoxed f pending s = IsDescribed f (slice_index_or pending s.slot None) s

-- in a setting with these map shapes, each machine state that the old waiting states describe the new ones describe
abbrev pub KeepsWaiting : List MapShape → Waiting → Waiting → Type 0
KeepsWaiting shapes old new = (f : Setting) (s : State) → f.shapes ≡ shapes → WaitsBoxed f old s → WaitsBoxed f new s

-- an abstract state waits at the slot for each machine state with the property `Is`
abbrev pub AddsWaiting : List MapShape → ℕ → (Setting → State → Type 0) → Waiting → Type 0
AddsWaiting shapes slot Is pending = (f : Setting) (s : State) → f.shapes ≡ shapes → s.slot ≡ slot → Is f s → WaitsBoxed f pending s

-- the machine state is known: a waiting abstract state describes it, or the one that is transferred to its slot does
abbrev pub IsKnown : Waiting → AbstractState → Bool → ℕ → Setting → State → Type 0
IsKnown pending state live slot f s = WaitsBoxed f pending s ⊎ ((live ≡ true) × (s.slot ≡ slot) × Contains f state s)

-- from this state the program ends, or goes on to a known state; at a call of a counter it does so for each answer
abbrev pub LeadsOn : (Setting → State → Type 0) → Setting → State → Type 0
LeadsOn K f s =
    ((answer : ℕ) × Ends f s answer s.maps)
    ⊎ ((t : State) × Step f s None t × IsEdge f.slots s.slot t.slot × K f t)
    ⊎ ((x : ℕ) → x < 2 ^ 64 → (c : CounterCall) × (t : State) × (answer_of c ≡ x) × Step f s (Some c) t × IsAskingEdge f.slots s.slot t.slot × K f t)

-- from each state at this slot that the abstract state describes, the program ends or goes on to a known state
abbrev pub LeadsOnFrom : Subject → ℕ → AbstractState → (Setting → State → Type 0) → Type 0
LeadsOnFrom p slot state K =
    (f : Setting) (s : State) → IsSetting p.slots p.shapes p.context f → s.slot ≡ slot → Contains f state s → LeadsOn K f s

-- the pass is done with one slot: known states at other slots stay known, and those at this slot lead on to known states
abbrev pub PassesOn : Subject → ℕ → (Setting → State → Type 0) → (Setting → State → Type 0) → Type 0
PassesOn p slot K L =
    (f : Setting) (s : State) → IsSetting p.slots p.shapes p.context f → IsStart p.slots s.slot → K f s → (s.slot ≢ slot → L f s) × (s.slot ≡ slot → LeadsOn L f s)

-- from each known state at an instruction, at `slot` or later, the program ends within as many steps as the height of its slot
abbrev pub RestIsSafe : Subject → List ℕ → (ℕ → ℕ) → ℕ → (Setting → State → Type 0) → Type 0
RestIsSafe p heights made slot K =
    (f : Setting) (s : State) → IsSetting p.slots p.shapes p.context f → slot ≤ s.slot → IsStart p.slots s.slot → K f s → EndsWithin f s (slice_index heights s.slot) (made s.slot)

-- from each of these known states at an instruction, whatever numbers bound the counter calls, the program ends within as many
-- steps as the height of its slot
abbrev pub AllIsSafe : Subject → List ℕ → (Setting → State → Type 0) → Type 0
AllIsSafe p heights K = (made : ℕ → ℕ) → BoundsCalls p.slots made → RestIsSafe p heights made 0 K

-- control goes on for each machine state with the property `Is`, and the abstract state describes it
abbrev pub GoesOnWith : (Setting → State → Type 0) → AbstractState → Bool → Type 0
GoesOnWith Is state live = (f : Setting) (s : State) → Is f s → (live ≡ true) × Contains f state s

-- the abstract state describes the machine state, and both operands are as told on this side of the branch; no state is
-- on a side to which control never goes
abbrev pub IsOnSide : Setting → AbstractState → ℕ → Source → Option AbstractValue → AbstractValue → Relation → State → Type 0
IsOnSide f state dst src None right relation s = ⊥
IsOnSide f state dst src (Some word) right relation s = Contains f state s × DescribesBranch f s dst src word right relation

-- both operands of the branch are set, and the state after it is known on the side that the test chooses
pub record BranchesTo (K : Setting → State → Type 0) (f : Setting) (s : State) (w : Width) (c : Condition) (dst : ℕ) (src : Source) (to next : ℕ) : Type 0 where
  pub left : ℕ
  pub right : ℕ
  pub left_is : s.register dst ≡ Some left
  pub right_is : IsOperand s src right
  pub yes : (t : State) → t ≡ record s { slot = to } → taken w c left right ≡ true → K f t
  pub no : (t : State) → t ≡ record s { slot = next } → taken w c left right ≡ false → K f t

-- from each state that the abstract state describes, the branch goes to a known state
abbrev pub BranchesFrom : (Setting → State → Type 0) → List MapShape → AbstractState → Width → Condition → ℕ → Source → ℕ → ℕ → Type 0
BranchesFrom K shapes state w c dst src to next = (f : Setting) (s : State) → f.shapes ≡ shapes → Contains f state s → BranchesTo K f s w c dst src to next
