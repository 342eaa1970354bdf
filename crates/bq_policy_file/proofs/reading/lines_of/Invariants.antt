use Rattle.std.proofs.Common.{◌≡◌, map, length}
use Rattle.bq_policy_file.specs.Files.{instruction_lines}
use Rattle.bq_policy_file.proofs.reading.lines_of.Given as goal

-- the numbers of those among the lines so far
abbrev pub invariant-loop-line : goal.invariant-loop-line
invariant-loop-line l = record {
  stated : l.numbers.items ≡ instruction_lines 1 (map (λ line. line.now) l.yielded);
  count : l.number ≡ length l.yielded;
}
