use Rattle.std.proofs.Common.{◌≡◌, ℕ, ◌+◌, ◌<◌, List, length, get_or, take, subst, arith, rules}
use Rattle.std.proofs.lemmas.List.{length-take, take_more}
use Rattle.bq_comparison.specs.declared.figure.Figure.{Figure}
use Rattle.bq_comparison.specs.declared.figure.Figure.TheVariants.{Task}
use Rattle.bq_comparison.specs.declared.figure.TaskFigure.TheVariants.{Ran}
use Rattle.bq_comparison.specs.Rows.{IsRow, numbers_at}
use Rattle.bq_comparison.proofs.RowLemmas.{AreRowsFrom-push}
use Rattle.bq_comparison.proofs.figure_row.make_rows.Goals as goal

pub figures-preserved : goal.figures-preserved
figures-preserved c =
    let figures = c.args.figures.now in
    let runs = c.args.runs.now in
    let i = c.figures.place in
    let f : Figure = get_or figures i (Task 0 Ran) in
    let row = c.row_of.result in
    let inside : i < length figures = c.figures-test.true in
    let P : List ℕ → Type 0 = λ xs. IsRow f xs row in
    let Q : ℕ → Type 0 = λ n. IsRow f (numbers_at n runs) row in
    let numbers : c.as_slice.result.now ≡ numbers_at i runs = search rules in
    let place : i ≡ 0 + length (take i figures) = omega (arith, length-take i figures) in
    let reported : Q i = subst P numbers c.row_of.ensures in
    rw (take_more figures i (Task 0 Ran) inside, c.in_ok-push.ensures.items)
    (AreRowsFrom-push 0 runs (take i figures) c.figures.rows.items f row c.figures.invariant (subst Q place reported))
