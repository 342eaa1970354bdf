-- What several runs say of each figure.
use Rattle.std.specs.Prelude.{◌≡◌, ℕ, ◌+◌, ◌<◌, ◌⊎◌, List, [], ◌∷◌, length, MatchOption}
use Rattle.std.specs.List.{filter_map}
use Rattle.bq_comparison.specs.Means.{IsDeviation, IsMean, IsTooGreat}
use Rattle.bq_comparison.specs.declared.figure.Figure.{Figure}
use Rattle.bq_comparison.specs.declared.figure_row.FigureRow.{FigureRow}
use Rattle.bq_comparison.specs.declared.runs.RunFigures.{RunFigures}
use Rattle.bq_comparison.specs.Runs.{figure_value_at}

-- the numbers at a place, of the runs that have one there
abbrev pub numbers_at : ℕ → List RunFigures → List ℕ
numbers_at place runs = filter_map (figure_value_at place) runs

-- what the numbers say of a figure
pub record IsRow (figure : Figure) (xs : List ℕ) (row : FigureRow) : Type 0 where
  pub of : row.figure ≡ figure
  pub runs : row.runs ≡ length xs
  pub mean : MatchOption row.mean (xs ≡ []) (IsMean xs)
  pub deviation : MatchOption row.deviation ((length xs < 2) ⊎ IsTooGreat xs) (IsDeviation xs)

-- a row for each figure, of the numbers at its place; the first has this place
abbrev pub AreRowsFrom : ℕ → List RunFigures → List Figure → List FigureRow → Type 0
AreRowsFrom place runs [] [] = Unit {0}
AreRowsFrom place runs (f ∷ figures) (row ∷ rows) = IsRow f (numbers_at place runs) row × AreRowsFrom (place + 1) runs figures rows
AreRowsFrom place runs figures rows = ⊥

-- the rows are those of these figures, in their order
abbrev pub AreRows : List RunFigures → List Figure → List FigureRow → Type 0
AreRows runs figures rows = AreRowsFrom 0 runs figures rows
