use Rattle.std.proofs.Common.{◌≡◌, ◌∙◌, ap, arith, refl, string_bytes}
use Rattle.bq_drawing.specs.Frames.{picture_setting}
use Rattle.bq_drawing.proofs.PlacedLemmas.{drawn_all, lines_stay, rows_next, rows_none}
use Rattle.bq_drawing.proofs.drawing.Drawing.write_rows.Goals as goal

pub loop-number-init : goal.loop-number-init
loop-number-init c = record {
  within = omega arith;
  rows =
      rows_none c.args.window.now (picture_setting c.args.frame.now) c.args.self.now.rows _ c.new.ensures.bytes
      c.new-3.ensures.bytes c.new-4.ensures.empty refl refl refl;
  lines = c.new-2.ensures.bytes;
}

pub loop-number-preserved : goal.loop-number-preserved
loop-number-preserved c = record {
  within = omega arith;
  rows =
      rows_next c.args.window.now (picture_setting c.args.frame.now) c.args.self.now.rows c.loop-number.number _ _ c.loop-number.invariant.rows
      c.in_ok-write_row.ensures;
  lines =
      ap string_bytes
      (lines_stay c.args.window.now (picture_setting c.args.frame.now) c.args.self.now.rows c.loop-number.number _ _ c.in_ok-write_row.ensures)
      ∙ c.loop-number.invariant.lines;
}

pub returns : goal.returns
returns c =
    let end : c.loop-number.number ≡ 64 = omega (arith, c.loop-number.invariant.within, c.loop-number-test.false) in
    drawn_all c.args.window.now (picture_setting c.args.frame.now) c.args.self.now c.loop-number.number c.loop-number.rows
    c.write_links.new.rows _ end c.loop-number.invariant.lines c.loop-number.invariant.rows c.write_links.ensures.unchanged
    c.write_links-2.ensures.unchanged c.in_ok-write_links.ensures.text c.in_ok-write_links-2.ensures.text
