-- Lines, one more at the end.
use Rattle.std.proofs.Common.{◌≡◌, ℕ, ◌+◌, List, [], ◌∷◌, ◌++◌, Option, length, refl, ap, inl, inr, arith}
use Rattle.std.proofs.lemmas.Grind.{common_steps}
use Rattle.bq_comparison.specs.declared.figure_row.FigureRow.{FigureRow}
use Rattle.bq_comparison.specs.declared.sides.OtherSide.{OtherSide}
use Rattle.bq_comparison.specs.declared.line.FigureLine.{FigureLine}
use Rattle.bq_comparison.specs.Lines.{Selects, row_beside, rows_beside}

-- a line more at the end that is shown is selected too
pub Selects-take : (P : FigureLine → Type 0) (xs ys : List FigureLine) (x : FigureLine)
    → Selects P xs ys → P x → Selects P (xs ++ x ∷ []) (ys ++ x ∷ [])
Selects-take P [] ys x h shown = inl (shown, ([], ap (λ l. l ++ x ∷ []) h, refl))
Selects-take P (z ∷ zs) ys x h shown =
    elim h [
      | inl a ↦ inl (a.0, (a.1.0 ++ x ∷ [], ap (λ l. l ++ x ∷ []) a.1.1, Selects-take P zs a.1.0 x a.1.2 shown))
      | inr b ↦ inr (b.0, Selects-take P zs ys x b.1 shown)
    ]

-- a line more at the end that is not shown is left out
pub Selects-leave : (P : FigureLine → Type 0) (xs ys : List FigureLine) (x : FigureLine)
    → Selects P xs ys → ¬ P x → Selects P (xs ++ x ∷ []) ys
Selects-leave P [] ys x h hidden = inr (hidden, h)
Selects-leave P (z ∷ zs) ys x h hidden =
    elim h [
      | inl a ↦ inl (a.0, (a.1.0, a.1.1, Selects-leave P zs a.1.0 x a.1.2 hidden))
      | inr b ↦ inr (b.0, Selects-leave P zs ys x b.1 hidden)
    ]

-- a row more at the end stands beside the one at its place
pub beside-more : (place : ℕ) (rows : List FigureRow) (row : FigureRow) (theirs : Option OtherSide)
    → rows_beside place (rows ++ row ∷ []) theirs
    ≡ rows_beside place rows theirs ++ row_beside (place + length rows) row theirs ∷ []
beside-more place [] row theirs = grind (arith, common_steps)
beside-more place (r ∷ rs) row theirs = grind (arith, common_steps, beside-more (place + 1) rs row theirs)
