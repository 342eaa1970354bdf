use Rattle.std.proofs.Common.{◌≡◌, ◌-◌, take}
use Rattle.bq_report.specs.Longest.{time_of_all}
use Rattle.bq_report.proofs.longest.time_left.Given as goal

-- what the runs so far leave
abbrev pub invariant-loop-run : goal.invariant-loop-run
invariant-loop-run l = l.left ≡ l.time - time_of_all l.from l.to (take l.run-index l.runs)
