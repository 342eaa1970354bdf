use Rattle.std.proofs.Common.{◌≡◌, ◌≤◌, ◌^◌, ◌+◌, ◌*◌}
use Rattle.bq_workload.specs.Draws.{fraction}
use Rattle.bq_workload.proofs.exponential.fraction.Given as goal

abbrev pub invariant-digits : goal.invariant-digits
invariant-digits l = record {
  same : fraction l.left l.digits l.rest ≡ fraction 32 0 l.mantissa;
  low : 2 ^ 63 ≤ l.rest;
  room : (l.digits + 1) * 2 ^ l.left ≤ 2 ^ 32;
}

abbrev pub decreases-digits : goal.decreases-digits
decreases-digits l = l.left
