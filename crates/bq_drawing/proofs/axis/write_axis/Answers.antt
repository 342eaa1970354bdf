use Rattle.std.proofs.Common.{◌≡◌, List, ℕ, ◌++◌, ◌∙◌, ap, arith, string_bytes}
use Rattle.bq_disc.specs.Counts.{saturating_sum}
use Rattle.bq_drawing.specs.Axes.{axis_name, axis_marks_text}
use Rattle.bq_drawing.specs.Frames.{picture_setting}
use Rattle.bq_drawing.specs.Units.{unit_name}
use Rattle.bq_drawing.proofs.AxisLemmas.{marks_more, marks_none}
use Rattle.bq_drawing.proofs.PictureLemmas.{last_added}
use Rattle.bq_drawing.proofs.axis.write_axis.Goals as goal

pub loop-number-init : goal.loop-number-init
loop-number-init c = record { within = omega arith; text = marks_none (picture_setting c.args.frame.now) c.args.step c.args.top c.args.bottom _ }

pub loop-number-preserved : goal.loop-number-preserved
loop-number-preserved c = record {
  within = omega arith;
  text = marks_more (picture_setting c.args.frame.now) c.args.step c.args.top c.args.bottom c.loop-number.number _ _ _ _ c.line_at-at.ensures
      c.loop-number.invariant.text c.in_ok-write_mark.ensures;
}

pub returns : goal.returns
returns c =
    let s = picture_setting c.args.frame.now in
    let end : c.loop-number.number ≡ 12 = omega (arith, c.loop-number.invariant.within, c.loop-number-test.false) in
    last_added c.write_axis_name.result (string_bytes c.args.text.now) (string_bytes c.loop-number.text)
    (string_bytes c.write_axis_name.new.text) (axis_marks_text s c.args.step c.args.top c.args.bottom 12)
    (axis_name (unit_name s.unit) (saturating_sum c.args.bottom 42)) (axis_name c.name.result.now c.saturating_add.result)
    (c.loop-number.invariant.text ∙ ap (λ n. string_bytes c.args.text.now ++ axis_marks_text s c.args.step c.args.top c.args.bottom n) end)
    (ap (λ line. axis_name c.name.result.now line) c.saturating_add.ensures
    ∙ ap (λ (name : List ℕ). axis_name name (saturating_sum c.args.bottom 42)) c.name.ensures) c.write_axis_name.ensures
