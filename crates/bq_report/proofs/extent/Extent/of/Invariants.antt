use Rattle.std.proofs.Common.{◌≤◌}
use Rattle.bq_report.proofs.ExtentLemmas.{Read}
use Rattle.bq_report.proofs.extent.Extent.of.Given as goal

abbrev pub invariant-loop-number : goal.invariant-loop-number
invariant-loop-number l = record {
  within : l.number ≤ 64;
  read : Read l.window l.schedule l.number l.first l.last;
}
