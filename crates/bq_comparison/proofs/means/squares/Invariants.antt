use Rattle.std.proofs.Common.{◌≡◌}
use Rattle.std.specs.Prelude.{take}
use Rattle.bq_comparison.specs.Means.{squares}
use Rattle.bq_comparison.proofs.means.squares.Given as goal

abbrev pub invariant-numbers : goal.invariant-numbers
invariant-numbers l = l.total ≡ squares (take l.number-index l.numbers)
