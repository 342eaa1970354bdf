use Rattle.std.proofs.Common.{rules, ◌≡◌, ◌+◌, ◌<◌, List, [], ◌∷◌, ◌++◌, length, get_or, take, subst, sym, ap, ◌∙◌, None, refl, arith}
use Rattle.std.proofs.lemmas.List.{length-take, take_more}
use Rattle.bq_comparison.specs.declared.figure.Figure.TheVariants.{Task}
use Rattle.bq_comparison.specs.declared.figure.TaskFigure.TheVariants.{Ran}
use Rattle.bq_comparison.specs.declared.figure_row.FigureRow.{FigureRow}
use Rattle.bq_comparison.specs.declared.line.FigureLine.{FigureLine}
use Rattle.bq_comparison.specs.Lines.{Selects, IsLineShown, row_beside, rows_beside}
use Rattle.bq_comparison.proofs.LineLemmas.{Selects-take, Selects-leave, beside-more}
use Rattle.bq_comparison.proofs.line.make_lines.Goals as goal
use Rattle.bq_comparison.proofs.line.make_lines.Goals.{then-is_shown+in_ok-push, else-is_shown}

pub rows-preserved : goal.rows-preserved
rows-preserved c =
    let rows = c.args.sides.now.ours.items in
    let theirs = c.args.sides.now.theirs in
    let shows : FigureLine → Type 0 = IsLineShown c.args.window.now in
    let i = c.rows.place in
    let none : FigureRow = record { figure = Task 0 Ran; runs = 0; mean = None; deviation = None } in
    let row : FigureRow = get_or rows i none in
    let line : FigureLine = row_beside i row theirs in
    let all : c.deref-row-items.result.now ≡ rows = search rules in
    let inside : i < length rows = search (rules, arith) in
    let place : 0 + length (take i rows) ≡ i = omega (arith, length-take i rows) in
    let more : rows_beside 0 (take (i + 1) rows) theirs ≡ rows_beside 0 (take i rows) theirs ++ line ∷ [] =
    ap (λ l. rows_beside 0 l theirs) (take_more rows i none inside) ∙ beside-more 0 (take i rows) row theirs
    ∙ ap (λ n. rows_beside 0 (take i rows) theirs ++ row_beside n row theirs ∷ []) place in
    let here : get_or c.deref-row-items.result.now i none ≡ row = ap (λ l. get_or l i none) all in
    let made : record { ours = get_or c.deref-row-items.result.now i none; theirs = c.their.result; paired = c.paired.result } ≡ line =
    cc (here, c.their.ensures, c.paired.ensures) in
    let of : List FigureLine → Type 0 = λ ys. Selects shows (rows_beside 0 (take (i + 1) rows) theirs) ys in
    let from : List FigureLine → Type 0 = λ xs. Selects shows xs (c.rows.lines.items ++ line ∷ []) in
    let kept : List FigureLine → Type 0 = λ xs. Selects shows xs c.rows.lines.items in
    elim c.if-is_shown.branch [
      | then-is_shown+in_ok-push w ↦
          subst of (sym (ap (λ v. v.items) w.lines-is ∙ w.in_ok-push.ensures.items ∙ ap (λ x. c.rows.lines.items ++ x ∷ []) made))
          (subst from (sym more) (Selects-take shows (rows_beside 0 (take i rows) theirs) c.rows.lines.items line c.rows.invariant
          (subst shows made (w.if-is_shown.ensures.0 refl))))
      | else-is_shown w ↦
          subst of (sym (ap (λ v. v.items) w.lines-is))
          (subst kept (sym more) (Selects-leave shows (rows_beside 0 (take i rows) theirs) c.rows.lines.items line c.rows.invariant
          (λ h. let e = w.if-is_shown.ensures.1 (subst shows (sym made) h) in cc)))
    ]
