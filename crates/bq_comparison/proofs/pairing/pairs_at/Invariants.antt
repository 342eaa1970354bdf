use Rattle.std.proofs.Common.{◌≡◌, ◌≤◌, length}
use Rattle.std.specs.Prelude.{take}
use Rattle.bq_comparison.specs.Pairs.{pairs_at}
use Rattle.bq_comparison.proofs.pairing.pairs_at.Given as goal

abbrev pub invariant-runs : goal.invariant-runs
invariant-runs l =
    record { so_far : l.pairs.items ≡ pairs_at l.place (take l.index l.ours) (take l.index l.theirs); few : length l.pairs.items ≤ l.index }
