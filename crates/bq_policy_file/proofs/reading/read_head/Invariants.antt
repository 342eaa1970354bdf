use Rattle.std.proofs.Common.{◌≡◌, map, length}
use Rattle.bq_policy_file.specs.Heads.{StatesHead}
use Rattle.bq_policy_file.proofs.reading.read_head.Given as goal

-- the head is that of the lines so far
abbrev pub invariant-loop-line : goal.invariant-loop-line
invariant-loop-line l = record {
  stated : StatesHead (map (λ line. line.now) l.yielded) l.head;
  count : l.number ≡ length l.yielded;
}
