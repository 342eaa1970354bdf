use Rattle.std.proofs.Common.{rules, ◌≡◌, ◌<◌, length, refl, inr}
use Rattle.std.proofs.lemmas.Result.{on_ok_weaker}
use Rattle.bq_report.proofs.ReportLemmas.{test_fails}
use Rattle.bq_drawing.specs.Rows.{HasRow, drawing_row_of}
use Rattle.bq_drawing.specs.Frames.{picture_setting}
use Rattle.bq_drawing.proofs.PictureLemmas.{row_there}
use Rattle.bq_drawing.proofs.drawing.Drawing.write_row.Goals as goal

pub returns-then-not-shows_processor : goal.returns-then-not-shows_processor
returns-then-not-shows_processor c =
    inr (
      λ (h : HasRow c.args.window.now c.args.self.now.rows c.args.number).
          test_fails _ _ c.shows_processor.ensures c.if-not-shows_processor.true h.shown,
      refl,
    )

pub returns : goal.returns
returns c =
    let there : c.args.number < length c.args.self.now.rows = search rules in
    let same : c.in-Some.row.now ≡ drawing_row_of c.args.self.now.rows c.args.number = search rules in
    on_ok_weaker _ (row_there c.args.window.now (picture_setting c.args.frame.now) c.args.self.now.rows c.args.number c.in-Some.row.now _ _
    there (c.shows_processor.ensures.0 c.if-not-shows_processor.false) same)
    c.write.ensures
