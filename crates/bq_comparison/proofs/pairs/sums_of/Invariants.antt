use Rattle.std.proofs.Common.{◌≡◌, ◌-◌, ◌≤◌, ◌*◌, ◌^◌}
use Rattle.std.specs.Prelude.{take}
use Rattle.bq_comparison.specs.Pairs.{our_sum, their_sum}
use Rattle.bq_comparison.proofs.pairs.sums_of.Given as goal

abbrev pub invariant-pairs : goal.invariant-pairs
invariant-pairs l =
    record {
      ours : l.sums.ours ≡ our_sum (take l.pair-index l.pairs);
      theirs : l.sums.theirs ≡ their_sum (take l.pair-index l.pairs);
      small : l.sums.ours ≤ l.pair-index * (2 ^ 64 - 1);
      their_small : l.sums.theirs ≤ l.pair-index * (2 ^ 64 - 1);
    }
