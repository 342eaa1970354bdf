-- Figures side by side.
use Rattle.std.specs.Prelude.{◌≡◌, ℕ, ◌+◌, ◌==◌, ◌&&◌, ◌⊎◌, Bool, false, List, [], ◌∷◌, Option, Some, None, slice_get, option_and_then}
use Rattle.bq_comparison.specs.declared.figure.Figure.{Figure}
use Rattle.bq_comparison.specs.declared.figure.Figure.TheVariants.{Task, Latency, StillWaiting, Processor, Hook}
use Rattle.bq_comparison.specs.declared.pairs.PairedRow.{PairedRow}
use Rattle.bq_comparison.specs.declared.sides.OtherSide.{OtherSide}
use Rattle.bq_comparison.specs.declared.figure_row.FigureRow.{FigureRow}
use Rattle.bq_report.specs.declared.window.Window.{Window}
use Rattle.bq_report.specs.Windows.{ShowsProcessor, ShowsTask}
use Rattle.bq_comparison.specs.declared.line.FigureLine.{FigureLine}

-- the other side's row at a place, if there is another side
abbrev pub row_at : Option OtherSide → ℕ → Option FigureRow
row_at theirs place = option_and_then (λ side. slice_get side.rows.items place) theirs

-- what both sides say of the difference at a place, if there is another side
abbrev pub paired_at : Option OtherSide → ℕ → Option PairedRow
paired_at theirs place = option_and_then (λ side. slice_get side.paired.items place) theirs

-- a row beside the other side's at this place, with what both say of their difference
abbrev pub row_beside : ℕ → FigureRow → Option OtherSide → FigureLine
row_beside place row theirs = record { ours = row; theirs = row_at theirs place; paired = paired_at theirs place }

-- each row beside the one at its place; the first has this place
abbrev pub rows_beside : ℕ → List FigureRow → Option OtherSide → List FigureLine
rows_beside place [] theirs = []
rows_beside place (row ∷ rows) theirs = row_beside place row theirs ∷ rows_beside (place + 1) rows theirs

-- there is a mean, and it is 0
abbrev pub is_mean_zero : Option ℕ → Bool
is_mean_zero None = false
is_mean_zero (Some mean) = mean == 0

-- our mean is 0, and so is the mean of the other side, if there is one
abbrev pub nothing_beside : Option FigureRow → Bool → Bool
nothing_beside None ours = ours
nothing_beside (Some theirs) ours = ours && is_mean_zero theirs.mean

-- the means are 0 on both sides
abbrev pub is_zero : FigureLine → Bool
is_zero line = nothing_beside line.theirs (is_mean_zero line.ours.mean)

-- a line of a figure belongs to the window
abbrev pub IsShownAs : Window → FigureLine → Figure → Type 0
IsShownAs w line (Task id f) = ShowsTask w id
IsShownAs w line (Latency id percent) = ShowsTask w id
IsShownAs w line (StillWaiting id) = ShowsTask w id
IsShownAs w line (Processor processor f) = ShowsProcessor w processor
IsShownAs w line (Hook processor at f) = ShowsProcessor w processor × (is_zero line ≡ false)

-- a line is of a task or a processor in the window; a line of a hook has a mean other than 0 on one side
abbrev pub IsLineShown : Window → FigureLine → Type 0
IsLineShown w line = IsShownAs w line line.ours.figure

-- the lines for which P holds are chosen, in their order
abbrev pub Selects : (FigureLine → Type 0) → List FigureLine → List FigureLine → Type 0
Selects P [] chosen = chosen ≡ []
Selects P (x ∷ xs) chosen = (P x × ((rest : List FigureLine) × (chosen ≡ x ∷ rest) × Selects P xs rest)) ⊎ ((¬ P x) × Selects P xs chosen)
