-- The two sides of a comparison.
use Rattle.std.specs.Prelude.{◌≡◌, ℕ, min, List, Option, Some, None, length, option_map, sum_by}
use Rattle.std.specs.Borrow.{Bor}
use Rattle.std.specs.Option.{IsSomeAnd}
use Rattle.bq_words.specs.Sizes.{processors_in}
use Rattle.bq_workload.specs.declared.workload.Workload.{Workload}
use Rattle.bq_comparison.specs.declared.report_figures.MachineSize.{MachineSize}
use Rattle.bq_comparison.specs.Report.{figures_of_report}
use Rattle.bq_simulate.specs.Simulations.{Accepted}
use Rattle.bq_experiment.specs.PoliciesAndImages.{PoliciesAndImages}
use Rattle.bq_comparison.specs.Pairs.{ArePairedRows}
use Rattle.bq_comparison.specs.declared.figure.Figure.{Figure}
use Rattle.bq_comparison.specs.declared.runs.RunFigures.{RunFigures}
use Rattle.bq_comparison.specs.declared.sides.OtherSide.{OtherSide}
use Rattle.bq_comparison.specs.Seeds.{IsSeedsSummary}
use Rattle.bq_comparison.specs.declared.sides.Sides.{Sides}

-- the tasks of all kinds, as far as 16 bits count, and the processors
abbrev pub size_of_machine : Workload → MachineSize
size_of_machine w = record { tasks = min (sum_by (λ kind. kind.count) w.tasks.items) 65535; processors = processors_in w.machine.size }

-- the policies of the other side, if there is one
abbrev pub other_policies : Option (Bor PoliciesAndImages) → Option (List Accepted)
other_policies others = option_map (λ p. p.now.loaded) others

-- what this many runs with these policies say of each figure, and what they and our runs say of its difference
pub record IsOtherSide (policies : List Accepted) (w : Workload) (event_limit seeds : ℕ) (figures : List Figure) (ours : List RunFigures) (side : OtherSide) : Type 0 where
  pub runs : List RunFigures
  pub rows : IsSeedsSummary policies w event_limit seeds figures runs side.rows.items
  pub paired : ArePairedRows ours runs (length figures) side.paired.items

-- there is another side exactly when there are other policies, and it tells of this many runs with these
abbrev pub AreTheirs : Option (List Accepted) → Workload → ℕ → ℕ → List RunFigures → Option OtherSide → Type 0
AreTheirs None w event_limit seeds ours side = side ≡ None
AreTheirs (Some others) w event_limit seeds ours side = IsSomeAnd side (IsOtherSide others w event_limit seeds (figures_of_report (size_of_machine w)) ours)

-- each side tells of this many runs with its policies, each of at most that many events, and of all figures of the report
pub record IsComparison (policies : List Accepted) (others : Option (List Accepted)) (w : Workload) (event_limit seeds : ℕ) (sides : Sides) : Type 0 where
  pub runs : List RunFigures
  pub ours : IsSeedsSummary policies w event_limit seeds (figures_of_report (size_of_machine w)) runs sides.ours.items
  pub theirs : AreTheirs others w event_limit seeds runs sides.theirs
