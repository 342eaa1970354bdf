-- What the runs of an experiment are. Each definition says of an experiment what its right side says of the experiment's policies,
-- workload, limit of events and figures.
use Rattle.std.specs.Prelude.{ℕ, List, Result}
use Rattle.bq_simulate.specs.Simulations.{with_seed}
use Rattle.bq_comparison.specs.Faults.{IsNoRun, IsNoSummary}
use Rattle.bq_comparison.specs.Seeds.{AreFirstRuns, AreResults, IsSeedsSummary, IsWorkloadRun}
use Rattle.bq_comparison.specs.Sides.{IsOtherSide}
use Rattle.bq_comparison.specs.declared.fault.SeedsFault.{SeedsFault}
use Rattle.bq_comparison.specs.declared.runs.RunFigures.{RunFigures}
use Rattle.bq_comparison.specs.declared.seeds.Experiment.{Experiment}
use Rattle.bq_comparison.specs.declared.sides.OtherSide.{OtherSide}
use Rattle.bq_comparison.specs.declared.figure_row.FigureRow.{FigureRow}

-- the run of the experiment with this seed
abbrev pub IsRunWithSeed : Experiment → ℕ → RunFigures → Type 0
IsRunWithSeed e seed = IsWorkloadRun e.policies.now (with_seed e.workload.now seed) e.event_limit e.figures.now

-- why its run with this seed does not come to its end
abbrev pub IsNoRunWithSeed : Experiment → ℕ → SeedsFault → Type 0
IsNoRunWithSeed e seed = IsNoRun e.policies.now (with_seed e.workload.now seed) e.event_limit

-- the results of its runs with each seed in turn, from this one on
abbrev pub AreResultsOf : Experiment → ℕ → List (Result RunFigures SeedsFault) → Type 0
AreResultsOf e seed = AreResults e.policies.now e.workload.now e.event_limit e.figures.now seed

-- its runs with each of the first seeds in turn
abbrev pub AreRunsOf : Experiment → List RunFigures → Type 0
AreRunsOf e = AreFirstRuns e.policies.now e.workload.now e.event_limit e.figures.now

-- its runs with this many seeds, and what they say of each of its figures
abbrev pub IsSummaryOf : Experiment → ℕ → List RunFigures → List FigureRow → Type 0
IsSummaryOf e count = IsSeedsSummary e.policies.now e.workload.now e.event_limit count e.figures.now

-- why there is no summary of its runs with this many seeds
abbrev pub HasNoSummary : Experiment → ℕ → SeedsFault → Type 0
HasNoSummary e count = IsNoSummary e.policies.now e.workload.now e.event_limit count

-- what its runs with this many seeds say of each of its figures, and what they and our runs say of the difference
abbrev pub IsSideOf : Experiment → ℕ → List RunFigures → OtherSide → Type 0
IsSideOf e count = IsOtherSide e.policies.now e.workload.now e.event_limit count e.figures.now
