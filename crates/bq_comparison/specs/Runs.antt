-- The values of the figures in one run.
use Rattle.std.specs.Prelude.{◌≡◌, ℕ, List, Option, All, map, slice_get, option_and_then}
use Rattle.bq_schedule.specs.Figures.{Figures}
use Rattle.bq_schedule.specs.WakeLatencies.{Tasks}
use Rattle.bq_comparison.specs.declared.figure.Figure.{Figure}
use Rattle.bq_comparison.specs.declared.runs.RunFigures.{RunFigures}
use Rattle.bq_comparison.specs.Values.{IsFigureValue}

-- each of the figures, with its value
pub record IsRunOf (s : Figures) (tasks : Tasks) (figures : List Figure) (run : RunFigures) : Type 0 where
  pub named : map (λ v. v.figure) run.values.items ≡ figures
  pub valued : All (λ v. IsFigureValue s tasks v.figure v.value) run.values.items

-- the number at a place, if there is one
abbrev pub figure_value_at : ℕ → RunFigures → Option ℕ
figure_value_at place run = option_and_then (λ v. v.value) (slice_get run.values.items place)
