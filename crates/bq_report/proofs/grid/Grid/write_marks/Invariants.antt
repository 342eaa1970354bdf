use Rattle.std.proofs.Common.{◌≡◌, ◌≤◌, ◌++◌}
use Rattle.std.specs.Prelude.{string_bytes}
use Rattle.bq_report.specs.Maps.{ruler_marks_text}
use Rattle.bq_report.proofs.grid.Grid.write_marks.Given as goal

-- the marks before this one
abbrev pub invariant-loop-number : goal.invariant-loop-number
invariant-loop-number l = record {
  within : l.number ≤ l.last;
  marks : string_bytes l.text ≡ string_bytes l.initial.text ++ ruler_marks_text l.self l.number;
}
