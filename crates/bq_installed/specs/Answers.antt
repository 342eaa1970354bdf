-- What a policy answers when it is asked.
use Rattle.std.specs.Prelude.{ℕ, ◌*◌, ◌≤◌, List, [], length, map, replicate, Option, Some, None}
use Rattle.bq_bpf.specs.declared.shape.MapShape.{MapShape}
use Rattle.bq_bpf.specs.declared.board.CounterCall.{CounterCall}
use Rattle.bq_bpf.specs.Runs.{RunFrom, start}
use Rattle.bq_bpf.specs.Safe.{most_calls}
use Rattle.bq_interp.specs.Progress.{setting_of}
use Rattle.bq_verify.specs.Accepted.{Accepted}

-- a map of zeros
abbrev pub zeros_of : MapShape → List ℕ
zeros_of shape = replicate (shape.value_size * shape.entries) 0

-- the maps that a policy begins with
abbrev pub fresh_maps : Option Accepted → List (List ℕ)
fresh_maps None = []
fresh_maps (Some policy) = map zeros_of policy.shapes

-- A run of the policy's program, on this context and these maps, at this clock reading and processor: it answers r0, leaves
-- the maps maps', takes this many steps and makes these calls of counters
abbrev pub Answers : Accepted → List ℕ → List (List ℕ) → ℕ → ℕ → ℕ → List (List ℕ) → ℕ → List CounterCall → Type 0
Answers policy context maps now processor r0 maps' steps calls = RunFrom (setting_of policy context now processor) (start maps) steps calls r0 maps'

-- this many steps and these calls of counters are no more than a run of the policy may take and make
abbrev pub RunsWithin : Accepted → ℕ → List CounterCall → Type 0
RunsWithin policy steps calls = (steps ≤ policy.budget) × (length calls ≤ most_calls)
