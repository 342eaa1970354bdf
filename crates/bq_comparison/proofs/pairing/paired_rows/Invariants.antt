use Rattle.bq_comparison.specs.Pairs.{ArePairedRows}
use Rattle.bq_comparison.proofs.pairing.paired_rows.Given as goal

abbrev pub invariant-places : goal.invariant-places
invariant-places l = ArePairedRows l.ours l.theirs l.place l.rows.items
