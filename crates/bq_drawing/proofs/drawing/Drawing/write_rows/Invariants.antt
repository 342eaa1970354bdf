use Rattle.std.proofs.Common.{◌≡◌, ◌≤◌, [], string_bytes}
use Rattle.bq_drawing.specs.Frames.{picture_setting}
use Rattle.bq_drawing.specs.Writing.{AreWritten}
use Rattle.bq_drawing.proofs.drawing.Drawing.write_rows.Given as goal

-- the rows of the processors before this one
abbrev pub invariant-loop-number : goal.invariant-loop-number
invariant-loop-number l = record {
  within : l.number ≤ 64;
  rows : AreWritten l.window (picture_setting l.frame) l.self.rows l.number l.rows;
  lines : string_bytes l.rows.links ≡ [];
}
