-- Why a simulation does not come to its end.
use Rattle.std.specs.Prelude.{◌≡◌, Option, Some, None, IfSome}
use Rattle.bq_workload.specs.Soundness.{first_flaw}
use Rattle.bq_workload.specs.declared.sound.Unsound.{Unsound}
use Rattle.bq_workload.specs.declared.workload.Workload.{Workload}
use Rattle.bq_simulate.specs.declared.fault.SimulateFault.{SimulateFault}
use Rattle.bq_simulate.specs.declared.fault.SimulateFault.TheVariants as fault

-- the flaw for which a workload is refused; none for any other fault
abbrev pub reported_flaw : SimulateFault → Option Unsound
reported_flaw (fault.Unsound flaw) = Some flaw
reported_flaw why = None

-- no other flaw is reported than the first of the workload; a fault may tell none
abbrev pub ReportsNoOther : Workload → SimulateFault → Type 0
ReportsNoOther w why = IfSome (reported_flaw why) (λ flaw. first_flaw w ≡ Some flaw)
