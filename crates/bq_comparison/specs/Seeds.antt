-- Runs of one workload with several seeds.
use Rattle.std.specs.Prelude.{◌≡◌, ℕ, ◌+◌, List, [], ◌∷◌, ◌++◌, Some, Result, Ok, IfErr, IfOk, map, length, slice_get}
use Rattle.bq_workload.specs.declared.workload.Workload.{Workload}
use Rattle.bq_schedule.specs.Figures.{Figures}
use Rattle.bq_schedule.specs.WakeLatencies.{Tasks}
use Rattle.bq_comparison.specs.declared.figure.Figure.{Figure}
use Rattle.bq_comparison.specs.declared.figure_row.FigureRow.{FigureRow}
use Rattle.bq_comparison.specs.declared.runs.RunFigures.{RunFigures}
use Rattle.bq_comparison.specs.Rows.{AreRows}
use Rattle.bq_comparison.specs.Runs.{IsRunOf}
use Rattle.bq_simulate.specs.Simulations.{Accepted, with_seed}
use Rattle.bq_comparison.specs.Gathering.{IsGathered}
use Rattle.bq_comparison.specs.declared.fault.SeedsFault.{SeedsFault}
use Rattle.bq_comparison.specs.Faults.{IsNoRun}

-- the figures of a simulation of that workload with these policies, of at most this many events
pub record IsWorkloadRun (policies : List Accepted) (w : Workload) (event_limit : ℕ) (figures : List Figure) (run : RunFigures) : Type 0 where
  pub schedule : Figures
  pub tasks : Tasks
  pub gathered : IsGathered policies w event_limit (Some schedule) tasks
  pub reported : IsRunOf schedule tasks figures run

-- a run with each seed in turn, from that one on
abbrev pub AreSeededRuns : List Accepted → Workload → ℕ → List Figure → ℕ → List RunFigures → Type 0
AreSeededRuns policies w event_limit figures seed [] = Unit {0}
AreSeededRuns policies w event_limit figures seed (run ∷ runs) = IsWorkloadRun policies (with_seed w seed) event_limit figures run × AreSeededRuns policies w event_limit figures (seed + 1) runs

-- a run with each of the first seeds in turn, from the workload's own on
abbrev pub AreFirstRuns : List Accepted → Workload → ℕ → List Figure → List RunFigures → Type 0
AreFirstRuns policies w event_limit figures runs = AreSeededRuns policies w event_limit figures w.machine.seed runs

-- the runs with this many seeds, from the workload's own on, each of at most that many events, and what they say of each figure
pub record IsSeedsSummary (policies : List Accepted) (w : Workload) (event_limit : ℕ) (count : ℕ) (figures : List Figure) (runs : List RunFigures) (rows : List FigureRow) : Type 0 where
  pub number : length runs ≡ count
  pub runs_are : AreFirstRuns policies w event_limit figures runs
  pub rows_are : AreRows runs figures rows

-- the result of a run: its figures if it came to its end, and otherwise why it did not
abbrev pub IsResult : List Accepted → Workload → ℕ → List Figure → Result RunFigures SeedsFault → Type 0
IsResult policies w event_limit figures result = IfOk result (IsWorkloadRun policies w event_limit figures) × IfErr result (IsNoRun policies w event_limit)

-- the results of the runs with each seed in turn, from this one on
abbrev pub AreResults : List Accepted → Workload → ℕ → List Figure → ℕ → List (Result RunFigures SeedsFault) → Type 0
AreResults policies w event_limit figures seed results =
    (i : ℕ) (result : Result RunFigures SeedsFault) → slice_get results i ≡ Some result → IsResult policies (with_seed w (seed + i)) event_limit figures result

-- each run came to its end, and their figures follow those before
abbrev pub Comes : List RunFigures → List (Result RunFigures SeedsFault) → List RunFigures → Type 0
Comes before results after = (more : List RunFigures) × (results ≡ map Ok more) × (after ≡ before ++ more)
