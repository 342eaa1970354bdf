-- The one run of a policy on its inputs.
use Rattle.std.specs.Prelude.{◌≡◌, ℕ, zero, suc, ◌≤◌, List, length}
use Rattle.bq_bpf.specs.declared.board.CounterCall.{CounterCall}
use Rattle.bq_bpf.specs.Counters.{Counts, Through}
use Rattle.bq_bpf.specs.Memory.{Setting}
use Rattle.bq_hooks.specs.Hooks.{context_length_of}
use Rattle.bq_bpf.specs.Runs.{RunFrom, start}
use Rattle.bq_verify.specs.Accepted.{Accepted}
use Rattle.bq_interp.specs.Progress.{setting_of}
use Rattle.bq_interp.specs.declared.runs.Ran.{Ran}
use Rattle.bq_policy_run.specs.declared.inputs.Inputs.{Inputs}

-- what a run finds, and what it leaves: the bytes of the maps, and the counters
pub record PersistentState : Type 0 where
  pub maps : List (List ℕ)
  pub counters : List ℕ

-- what a run finds in its inputs
abbrev pub kept_in : Inputs → PersistentState
kept_in inputs = record { maps = inputs.maps.bytes; counters = inputs.board }

-- of the inputs, only the context may change
pub record ChangesOnlyContext (old new : Inputs) : Type 0 where
  pub maps : new.maps ≡ old.maps
  pub env : new.env ≡ old.env
  pub board : new.board ≡ old.board

-- of the inputs, only the maps may change
pub record ChangesOnlyMaps (old new : Inputs) : Type 0 where
  pub context : new.context ≡ old.context
  pub env : new.env ≡ old.env
  pub board : new.board ≡ old.board

-- of the inputs, only the counters may change
pub record ChangesOnlyCounters (old new : Inputs) : Type 0 where
  pub context : new.context ≡ old.context
  pub maps : new.maps ≡ old.maps
  pub env : new.env ≡ old.env

-- of the inputs, only the bytes of the maps and the counters may change
pub record ChangesOnlyState (old new : Inputs) : Type 0 where
  pub shapes : new.maps.shapes ≡ old.maps.shapes
  pub context : new.context ≡ old.context
  pub env : new.env ≡ old.env

-- the context has the length of the program's hook and version, and the maps have its shapes
pub record FitsProgram (program : Accepted) (inputs : Inputs) : Type 0 where
  pub context : length inputs.context.items ≡ context_length_of program.hook program.version
  pub shapes : inputs.maps.shapes ≡ program.shapes

-- the machine's run from these maps, on that context, at that time and on that processor, gives this answer after this many instructions,
-- within the budget, and leaves these maps; its calls of counters are these, and lead from those counters to these
pub record IsRun (program : Accepted) (context : List ℕ) (now processor : ℕ)
    (before : PersistentState) (steps : ℕ) (calls : List CounterCall) (answer : ℕ) (after : PersistentState) : Type 0 where
  pub runs : RunFrom (setting_of program context now processor) (start before.maps) steps calls answer after.maps
  pub counted : Through Counts before.counters calls after.counters
  pub within : steps ≤ program.budget

-- the run of the program on the inputs, which leaves them so
abbrev pub IsRunOn : Accepted → Inputs → Ran → Inputs → Type 0
IsRunOn program old ran new =
    IsRun program old.context.items old.env.now old.env.processor (kept_in old) ran.steps ran.calls.items ran.r0 (kept_in new)

-- what it has of the machine
abbrev pub setting_on : Accepted → Inputs → Setting
setting_on program inputs = setting_of program inputs.context.items inputs.env.now inputs.env.processor

-- a run leads from these maps and counters to those
abbrev pub LeadsFrom : Accepted → List ℕ → ℕ → ℕ → PersistentState → PersistentState → Type 0
LeadsFrom program context now processor before after = (steps : ℕ) × (calls : List CounterCall) × (answer : ℕ) × IsRun program context now processor before steps calls answer after

-- this many runs, one after another, lead there
abbrev pub AreRuns : Accepted → List ℕ → ℕ → ℕ → ℕ → PersistentState → PersistentState → Type 0
AreRuns program context now processor zero before after = after ≡ before
AreRuns program context now processor (suc n) before after =
    (between : PersistentState) × AreRuns program context now processor n before between × LeadsFrom program context now processor between after

-- this many runs of the program on the inputs, one after another, leave them so
abbrev pub AreRunsOn : Accepted → Inputs → ℕ → Inputs → Type 0
AreRunsOn program old count new = AreRuns program old.context.items old.env.now old.env.processor count (kept_in old) (kept_in new)
