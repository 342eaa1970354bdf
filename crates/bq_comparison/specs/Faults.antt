-- Why there is no summary.
use Rattle.std.specs.Prelude.{◌≡◌, ◌⊎◌, ℕ, ◌+◌, ◌<◌, ◌^◌, List, Option, None, Result, Err, Some, slice_get, ⊤}
use Rattle.std.specs.Option.{IsSomeAnd}
use Rattle.bq_workload.specs.Soundness.{first_flaw}
use Rattle.bq_workload.specs.declared.workload.Workload.{Workload}
use Rattle.bq_experiment.specs.Limits.{IsLonger}
use Rattle.bq_simulate.specs.Faults.{reported_flaw}
use Rattle.bq_simulate.specs.GoingWell.{HasTooManySteps}
use Rattle.bq_simulate.specs.Simulations.{Accepted, with_seed}
use Rattle.bq_simulate.specs.declared.fault.SimulateFault.{SimulateFault}
use Rattle.bq_simulate.specs.declared.fault.SimulateFault.TheVariants as run_fault
use Rattle.bq_comparison.specs.declared.fault.SeedsFault.{SeedsFault}
use Rattle.bq_comparison.specs.declared.fault.SeedsFault.TheVariants as fault
use Rattle.bq_comparison.specs.declared.runs.RunFigures.{RunFigures}

-- the fault of a run, in the words of a summary
abbrev pub fault_of_run : SimulateFault → SeedsFault
fault_of_run run_fault.OutOfMemory = fault.OutOfMemory
fault_of_run run_fault.Enough = fault.TooManyEvents
fault_of_run why = fault.Run why

-- the workload is not followed to its end: for its first flaw exactly if it has one, and otherwise only if 64 bits do not count
-- the bound of its steps
abbrev pub IsNotFollowed : Workload → SimulateFault → Type 0
IsNotFollowed w why = (reported_flaw why ≡ first_flaw w) × (first_flaw w ≡ None → HasTooManySteps w why)

-- a run of the workload with these policies does not come to its end: the workload is not followed, or the run is cut off after that many
-- events, only when there are more; memory may run out whatever the workload is
abbrev pub IsNoRun : List Accepted → Workload → ℕ → SeedsFault → Type 0
IsNoRun policies w event_limit (fault.Run why) = IsNotFollowed w why
IsNoRun policies w event_limit fault.Last = ⊥
IsNoRun policies w event_limit fault.TooManyEvents = IsLonger policies w event_limit
IsNoRun policies w event_limit fault.OutOfMemory = ⊤

-- of this many seeds, from the workload's own on, there is one with which more than this many events come
abbrev pub HasLonger : List Accepted → Workload → ℕ → ℕ → Type 0
HasLonger policies w event_limit count = (i : ℕ) × (i < count) × IsLonger policies (with_seed w (w.machine.seed + i)) event_limit

-- this many runs are refused for what one of them is; or the last seed is not below 2^64
abbrev pub IsNoSummary : List Accepted → Workload → ℕ → ℕ → SeedsFault → Type 0
IsNoSummary policies w event_limit count (fault.Run why) = IsNotFollowed w why
IsNoSummary policies w event_limit count fault.Last = 2 ^ 64 < w.machine.seed + count
IsNoSummary policies w event_limit count fault.TooManyEvents = HasLonger policies w event_limit count
IsNoSummary policies w event_limit count fault.OutOfMemory = ⊤

-- there is no summary with these policies, or with the others, if there are others
abbrev pub IsNoSide : List Accepted → Option (List Accepted) → Workload → ℕ → ℕ → SeedsFault → Type 0
IsNoSide policies others w event_limit count why = IsNoSummary policies w event_limit count why ⊎ IsSomeAnd others (λ theirs. IsNoSummary theirs w event_limit count why)

-- one of them ended in that fault
abbrev pub EndsInFault : List (Result RunFigures SeedsFault) → SeedsFault → Type 0
EndsInFault results why = (i : ℕ) × (slice_get results i ≡ Some (Err why))
