-- Why a run does not come to its end.
use Rattle.std.specs.Prelude.{◌≡◌, ℕ, List, None}
use Rattle.bq_streams.specs.Counts.{HasRisen}
use Rattle.bq_workload.specs.Soundness.{first_flaw}
use Rattle.bq_workload.specs.declared.workload.Workload.{Workload}
use Rattle.bq_simulate.specs.Faults.{ReportsNoOther}
use Rattle.bq_simulate.specs.GoingWell.{IsCutOff}
use Rattle.bq_simulate.specs.Simulations.{Accepted}
use Rattle.bq_simulate.specs.declared.fault.SimulateFault.{SimulateFault}
use Rattle.bq_simulate.specs.declared.fault.SimulateFault.TheVariants.{Enough}
use Rattle.bq_experiment.specs.Limits.{IsLonger}
use Rattle.bq_experiment.specs.declared.fault.RunFault.{RunFault}
use Rattle.bq_experiment.specs.declared.fault.RunFault.TheVariants.{Simulation, Write, TooManyEvents}

-- The writer's own fault comes only if it has failed, and any other fault only if it has not. A fault of the simulation has this
-- property; so has the fault of a sink that has enough.
abbrev pub IsRunStopped : (SimulateFault → Type 0) → RunFault → ℕ → Type 0
IsRunStopped P (Simulation why) failures = P why × (failures ≡ 0)
IsRunStopped P Write failures = HasRisen 0 failures
IsRunStopped P TooManyEvents failures = P Enough × (failures ≡ 0)

-- A flaw that is reported is the first of the workload. A workload without a flaw is followed to its end, unless it is cut off
-- as a simulation may be. A sink of this many events has enough only if there are more.
pub record IsNoEnd (policies : List Accepted) (w : Workload) (event_limit : ℕ) (why : SimulateFault) : Type 0 where
  pub flaw : ReportsNoOther w why
  pub ends : first_flaw w ≡ None → IsCutOff w why
  pub longer : why ≡ Enough → IsLonger policies w event_limit

-- a run of these policies stopped with this fault, cut off after this many events
abbrev pub IsRunFault : List Accepted → Workload → ℕ → RunFault → ℕ → Type 0
IsRunFault policies w event_limit why failures = IsRunStopped (IsNoEnd policies w event_limit) why failures
