use Rattle.std.proofs.Common.{◌≡◌, ◌-◌, ◌≤◌, ◌*◌, ◌^◌}
use Rattle.std.specs.Prelude.{sum, take}
use Rattle.bq_comparison.proofs.means.total.Given as goal

abbrev pub invariant-numbers : goal.invariant-numbers
invariant-numbers l =
    record { so_far : l.total ≡ sum (take l.number-index l.numbers); small : l.total ≤ l.number-index * (2 ^ 64 - 1) }
