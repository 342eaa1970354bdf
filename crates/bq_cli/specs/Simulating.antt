-- What the words of `simulate` ask for.
use Rattle.std.specs.Prelude.{Some, None}
use Rattle.bq_comparison.specs.Asking.{AskFor}
use Rattle.bq_experiment.specs.Asking.{AskForChanges, AskToShow}
use Rattle.bq_experiment.specs.declared.words.StudyWords.{StudyWords}
use Rattle.bq_cli.specs.declared.simulate.WorkloadShown.{WorkloadShown}
use Rattle.bq_cli.specs.declared.simulate.WorkloadShown.TheVariants.{Figures, Run}
use Rattle.bq_cli.specs.declared.simulate.AskedSimulation.{AskedSimulation}

-- the words ask for this comparison; or for none, and for a run that is shown so
abbrev pub AskForStudy : StudyWords → WorkloadShown → Type 0
AskForStudy words (Figures asked) = AskFor words (Some asked)
AskForStudy words (Run shown) = AskFor words None × AskToShow words shown

-- the words ask for a simulation: what is shown of it, and the changes of the workload's machine
pub record AskToSimulate (words : StudyWords) (s : AskedSimulation) : Type 0 where
  pub shown : AskForStudy words s.shown
  pub changes : AskForChanges words.machine s.changes
