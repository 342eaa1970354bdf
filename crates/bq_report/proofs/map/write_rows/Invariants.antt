use Rattle.std.proofs.Common.{◌≡◌, ℕ, ◌≤◌, length}
use Rattle.std.specs.Prelude.{string_bytes}
use Rattle.bq_report.specs.Legends.{DrawsRows}
use Rattle.bq_report.specs.Maps.{map_row_of}
use Rattle.bq_report.proofs.map.write_rows.Given as goal

-- the rows before this one are drawn; this one and those behind are as they were
abbrev pub invariant-loop-number : goal.invariant-loop-number
invariant-loop-number l = record {
  count : length l.rows.items ≡ length l.initial.rows.items;
  within : l.number ≤ length l.initial.rows.items;
  rest : (p : ℕ) → l.number ≤ p → map_row_of l.rows.items p ≡ map_row_of l.initial.rows.items p;
  draws : DrawsRows l.window l.initial.rows.items l.admitted l.grid l.number l.initial.legend l.legend (string_bytes l.initial.text)
      (string_bytes l.text);
}
