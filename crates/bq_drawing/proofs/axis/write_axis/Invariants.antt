use Rattle.std.proofs.Common.{◌≡◌, ◌≤◌, ◌++◌}
use Rattle.std.specs.Prelude.{string_bytes}
use Rattle.bq_drawing.specs.Axes.{axis_marks_text}
use Rattle.bq_drawing.specs.Frames.{picture_setting}
use Rattle.bq_drawing.proofs.axis.write_axis.Given as goal

-- the lines before this one
abbrev pub invariant-loop-number : goal.invariant-loop-number
invariant-loop-number l = record {
  within : l.number ≤ 12;
  text : string_bytes l.text ≡ string_bytes l.initial.text ++ axis_marks_text (picture_setting l.frame) l.step l.top l.bottom l.number;
}
