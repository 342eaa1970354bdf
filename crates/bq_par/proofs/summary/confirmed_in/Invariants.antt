use Rattle.std.proofs.Common.{◌≡◌}
use Rattle.bq_par.proofs.summary.confirmed_in.Given as goal

abbrev pub invariant-loop-receipt : goal.invariant-loop-receipt
invariant-loop-receipt l = (l.confirmed ≡ l.receipt-index)
