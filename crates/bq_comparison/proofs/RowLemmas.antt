-- Rows, one more at the end.
use Rattle.std.proofs.Common.{ℕ, ◌+◌, List, [], ◌∷◌, ◌++◌, length, subst, arith}
use Rattle.bq_comparison.specs.declared.figure.Figure.{Figure}
use Rattle.bq_comparison.specs.declared.runs.RunFigures.{RunFigures}
use Rattle.bq_comparison.specs.declared.figure_row.FigureRow.{FigureRow}
use Rattle.bq_comparison.specs.Rows.{AreRowsFrom, IsRow, numbers_at}

-- rows of some figures and the row of one figure more are the rows of all
pub AreRowsFrom-push : (place : ℕ) (runs : List RunFigures) (figures : List Figure) (rows : List FigureRow)
    (f : Figure) (row : FigureRow)
    → AreRowsFrom place runs figures rows → IsRow f (numbers_at (place + length figures) runs) row
    → AreRowsFrom place runs (figures ++ f ∷ []) (rows ++ row ∷ [])
AreRowsFrom-push place runs [] [] f row h more =
    let P : ℕ → Type 0 = λ n. IsRow f (numbers_at n runs) row in
    (subst P (omega arith) more, tt)
AreRowsFrom-push place runs [] (r ∷ rs) f row h more = absurd h
AreRowsFrom-push place runs (x ∷ xs) [] f row h more = absurd h
AreRowsFrom-push place runs (x ∷ xs) (r ∷ rs) f row h more =
    let P : ℕ → Type 0 = λ n. IsRow f (numbers_at n runs) row in
    (h.0, AreRowsFrom-push (place + 1) runs xs rs f row h.1 (subst P (omega arith) more))
