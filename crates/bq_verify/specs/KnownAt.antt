-- What is known of every run that reaches a slot.
use Rattle.std.specs.Prelude.{◌≡◌, ◌≢◌, ℕ, ◌<◌, ◌≤◌, List, Option, Some, None, length, slice_index_or}
use Rattle.bq_bpf.specs.declared.board.CounterCall.{CounterCall}
use Rattle.bq_bpf.specs.Memory.{HaveShapes, Setting, State}
use Rattle.bq_bpf.specs.Runs.{Steps, start}
use Rattle.bq_bpf.specs.Safe.{IsSetting}
use Rattle.bq_verify.specs.Edges.{IsStart}
use Rattle.bq_verify.specs.Straight.{IsStraightBefore}
use Rattle.bq_verify.specs.Subjects.{Subject}
use Rattle.bq_states.specs.declared.abstract_state.AbstractState.{AbstractState}
use Rattle.bq_states.specs.AbstractStates.{Contains}

-- for every context, all maps, every time, processor and answer of the counters: if a chain of steps from the start
-- reaches the slot, the abstract state describes its state there
abbrev pub ContainsRuns : Subject → ℕ → AbstractState → Type 0
ContainsRuns p slot state =
    (f : Setting) (maps : List (List ℕ)) → IsSetting p.slots p.shapes p.context f → HaveShapes p.shapes maps →
    (n : ℕ) (calls : List CounterCall) (t : State) → Steps f (start maps) n calls t → t.slot ≡ slot → Contains f state t

-- for every context, all maps, every time, processor and answer of the counters: no chain of steps from the start
-- reaches the slot
abbrev pub IsNotReached : Subject → ℕ → Type 0
IsNotReached p slot =
    (f : Setting) (maps : List (List ℕ)) → IsSetting p.slots p.shapes p.context f → HaveShapes p.shapes maps →
    (n : ℕ) (calls : List CounterCall) (t : State) → Steps f (start maps) n calls t → t.slot ≢ slot

-- what is known before each instruction, by slot. Each abstract state describes all runs that reach its slot. If a slot
-- up to `until` has none, although each instruction before it finds what it needs on every path, no run reaches it
pub record AreKnown (p : Subject) (until : ℕ) (known : List (Option AbstractState)) : Type 0 where
  pub contains : (slot : ℕ) (state : AbstractState) → slice_index_or known slot None ≡ Some state → ContainsRuns p slot state
  pub none : (slot : ℕ) → slot ≤ until → slot < length p.slots → slice_index_or known slot None ≡ None → IsStraightBefore p slot → IsNotReached p slot

-- from each known state at an instruction, at `slot` or later: if a chain of steps reaches the target, the abstract
-- state describes its state there
abbrev pub RestIsCovered : Subject → ℕ → AbstractState → ℕ → (Setting → State → Type 0) → Type 0
RestIsCovered p target state slot K =
    (f : Setting) (s : State) → IsSetting p.slots p.shapes p.context f → slot ≤ s.slot → IsStart p.slots s.slot → K f s →
    (n : ℕ) (calls : List CounterCall) (t : State) → Steps f s n calls t → t.slot ≡ target → Contains f state t
