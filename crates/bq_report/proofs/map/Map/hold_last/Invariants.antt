use Rattle.std.proofs.Common.{◌≡◌, ◌≤◌}
use Rattle.bq_report.specs.Maps.{HoldsLast}
use Rattle.bq_report.proofs.map.Map.hold_last.Given as goal

-- the last runs of the processors before this one are held
abbrev pub invariant-loop-number : goal.invariant-loop-number
invariant-loop-number l = record {
  within : l.number ≤ 64;
  rows : HoldsLast l.initial.self.window l.schedule l.number l.initial.self.rows.items l.self.rows.items;
  window : l.self.window ≡ l.initial.self.window;
  width : l.self.width ≡ l.initial.self.width;
  admitted : l.self.admitted ≡ l.initial.self.admitted;
}
