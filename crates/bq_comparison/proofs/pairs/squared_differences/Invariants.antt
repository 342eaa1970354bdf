use Rattle.std.proofs.Common.{◌≡◌}
use Rattle.std.specs.Prelude.{take}
use Rattle.bq_comparison.specs.Pairs.{squared_differences}
use Rattle.bq_comparison.proofs.pairs.squared_differences.Given as goal

abbrev pub invariant-pairs : goal.invariant-pairs
invariant-pairs l = l.total ≡ squared_differences (take l.pair-index l.pairs)
