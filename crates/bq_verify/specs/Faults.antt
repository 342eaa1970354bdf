-- The faults of the control graph and of single instructions, and which fault the verifier names.
use Rattle.std.specs.Prelude.{Bool, true, false, ◌≡◌, ℕ, ◌+◌, ◌<◌, ◌≤◌, ℤ, List, Option, Some, None, length, ◌||◌}
use Rattle.std.specs.Ordering.{int_eq}
use Rattle.bq_insn.specs.declared.Insn.{Insn}
use Rattle.bq_insn.specs.declared.Insn.TheVariants.{Call}
use Rattle.bq_insn.specs.Slots.{slots_of}
use Rattle.bq_bpf.specs.Instructions.{destination_of, distance_of, goes_on, asks_counter}
use Rattle.bq_bpf.specs.Steps.{LeadsTo, instruction_at}
use Rattle.bq_bpf.specs.Helpers.{number_of_helper}
use Rattle.bq_bpf.specs.Safe.{most_calls}
use Rattle.bq_bpf.specs.declared.helper.Helper.TheVariants.{Lookup, Update, Now, Processor, AddCounter, ReadCounter}
use Rattle.bq_verify.specs.Edges.{IsStart}
use Rattle.bq_verify.specs.Paths.{Path, CallsOnWay}
use Rattle.bq_verify.specs.declared.graph_cause.GraphCause.{GraphCause}
use Rattle.bq_verify.specs.declared.graph_cause.GraphCause.TheVariants.{Jump, NoExit, Unreached, Frame, Helper, Counters}

-- the instruction at the slot is a jump that leads to no later instruction
pub record IsBadJump (slots : List (Option Insn)) (slot : ℕ) : Type 0 where
  pub insn : Insn
  pub here : instruction_at slots slot ≡ Some insn
  pub distance : ℤ
  pub jumps : distance_of insn ≡ Some distance
  pub nowhere : (to : ℕ) → LeadsTo slot distance to → slot < to → IsStart slots to → ⊥

-- from the instruction at the slot control goes on past the end
pub record RunsOut (slots : List (Option Insn)) (slot : ℕ) : Type 0 where
  pub insn : Insn
  pub here : instruction_at slots slot ≡ Some insn
  pub on : goes_on insn ≡ true
  pub past : length slots ≤ slot + slots_of insn

-- the instruction at the slot writes register 10, the address of the stack's end
pub record WritesFrame (slots : List (Option Insn)) (slot : ℕ) : Type 0 where
  pub insn : Insn
  pub here : instruction_at slots slot ≡ Some insn
  pub writes : destination_of insn ≡ Some 10

-- whether a helper has that number
abbrev pub is_helper : ℤ → Bool
is_helper n =
    int_eq n (number_of_helper Lookup) || int_eq n (number_of_helper Update) || int_eq n (number_of_helper Now) || int_eq n (number_of_helper Processor)
    || int_eq n (number_of_helper AddCounter) || int_eq n (number_of_helper ReadCounter)

-- the instruction at the slot calls a helper that does not exist
pub record CallsUnknown (slots : List (Option Insn)) (slot : ℕ) : Type 0 where
  pub helper : ℤ
  pub here : instruction_at slots slot ≡ Some (Call helper)
  pub unknown : is_helper helper ≡ false

-- the instruction at the slot is a counter call, and on some path at least as many counter calls come before it as a run may make
pub record IsLateCall (slots : List (Option Insn)) (slot : ℕ) : Type 0 where
  pub insn : Insn
  pub here : instruction_at slots slot ≡ Some insn
  pub asks : asks_counter insn ≡ true
  pub count : ℕ
  pub way : CallsOnWay slots slot count
  pub many : most_calls ≤ count

-- an instruction begins at the slot, and no path leads to it
pub record IsUnreached (slots : List (Option Insn)) (slot : ℕ) : Type 0 where
  pub start : IsStart slots slot
  pub none : Path slots 0 slot → ⊥

-- the program has the fault at that slot
abbrev pub HasFault : List (Option Insn) → GraphCause → ℕ → Type 0
HasFault slots Jump slot = IsBadJump slots slot
HasFault slots NoExit slot = RunsOut slots slot
HasFault slots Unreached slot = IsUnreached slots slot
HasFault slots Frame slot = WritesFrame slots slot
HasFault slots Helper slot = CallsUnknown slots slot
HasFault slots Counters slot = IsLateCall slots slot

-- the least number with the property, or None if no number has it
abbrev pub IsLeast : (ℕ → Type 0) → Option ℕ → Type 0
IsLeast P None = (k : ℕ) → P k → ⊥
IsLeast P (Some k) = P k × ((j : ℕ) → j < k → P j → ⊥)

-- the place of a cause in the order of the checks
abbrev pub check_place : GraphCause → ℕ
check_place Jump = 1
check_place NoExit = 2
check_place Unreached = 3
check_place Frame = 4
check_place Helper = 5
check_place Counters = 6

-- no check before the check for this cause finds a fault
abbrev pub EarlierPass : List (Option Insn) → GraphCause → Type 0
EarlierPass slots cause = (other : GraphCause) → check_place other < check_place cause → IsLeast (HasFault slots other) None

-- the fault that the verifier names: the first check that finds one, and its least slot
abbrev pub IsFirstFault : List (Option Insn) → GraphCause → ℕ → Type 0
IsFirstFault slots cause slot = EarlierPass slots cause × IsLeast (HasFault slots cause) (Some slot)

-- no check finds a fault
abbrev pub IsFaultless : List (Option Insn) → Type 0
IsFaultless slots = (cause : GraphCause) → IsLeast (HasFault slots cause) None

-- whether a slot has the fault depends on the paths to the slot
abbrev pub IsOnWay : GraphCause → Type 0
IsOnWay Unreached = Unit {0}
IsOnWay Counters = Unit {0}
IsOnWay _ = ⊥
