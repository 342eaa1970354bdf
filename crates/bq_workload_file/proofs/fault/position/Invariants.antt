use Rattle.std.proofs.Common.{◌≡◌, ◌+◌, ◌≤◌, take}
use Rattle.bq_workload_file.specs.Positions.{column_after, line_after}
use Rattle.bq_workload_file.proofs.fault.position.Given as goal

-- the place is that of what comes after the bytes so far
abbrev pub invariant-loop-byte : goal.invariant-loop-byte
invariant-loop-byte l = record {
  line : l.place.0 ≡ line_after (take l.byte-index l.fn.before);
  column : l.place.1 ≡ column_after (take l.byte-index l.fn.before);
  lines : l.place.0 ≤ l.byte-index + 1;
  columns : l.place.1 ≤ l.byte-index + 1;
}
