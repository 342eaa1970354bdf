-- Laws of safe programs, and of the fault that is named for other programs.
use Rattle.std.specs.Prelude.{ℕ, ◌≡◌, ◌^◌, ◌<◌, ◌≤◌, List, Option, take}
use Rattle.bq_insn.specs.declared.Insn.{Insn}
use Rattle.bq_verify.specs.declared.graph_cause.GraphCause.{GraphCause}
use Rattle.bq_verify.specs.Faults.{IsFaultless, IsFirstFault}
use Rattle.bq_bpf.specs.declared.shape.MapShape.{MapShape}
use Rattle.bq_bpf.specs.declared.board.CounterCall.{CounterCall}
use Rattle.bq_bpf.specs.Memory.{Setting}
use Rattle.bq_bpf.specs.Runs.{RunFrom, start}
use Rattle.bq_bpf.specs.Safe.{Safe}

-- a program has at most one first fault, with one cause and one slot
abbrev pub OneFirstFault : Type 0
OneFirstFault = (slots : List (Option Insn)) (a b : GraphCause) (j k : ℕ) → IsFirstFault slots a j → IsFirstFault slots b k → (a ≡ b) × (j ≡ k)

-- a program whose control graph is faultless has no first fault
abbrev pub FaultlessHasNone : Type 0
FaultlessHasNone = (slots : List (Option Insn)) (cause : GraphCause) (slot : ℕ) → IsFaultless slots → IsFirstFault slots cause slot → ⊥

-- the setting with only the first bytes of its context
abbrev pub shortened : Setting → ℕ → Setting
shortened f n = record f { context = take n f.context }

-- a program that is safe on a context of this many bytes is safe on a longer one
abbrev pub SafeOnLonger : Type 0
SafeOnLonger =
    (slots : List (Option Insn)) (shapes : List MapShape) (n m budget : ℕ) → n ≤ m → m < 2 ^ 16 → Safe slots shapes n budget → Safe slots shapes m budget

-- a run on the first bytes of a context is also a run on the whole context, with the same steps, calls, answer and maps
abbrev pub RunsOnLonger : Type 0
RunsOnLonger =
    (f : Setting) (n steps : ℕ) (calls : List CounterCall) (answer : ℕ) (maps after : List (List ℕ)) → RunFrom (shortened f n) (start maps) steps calls answer after
    → RunFrom f (start maps) steps calls answer after
