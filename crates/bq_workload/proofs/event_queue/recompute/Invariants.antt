use Rattle.std.proofs.Common.{◌≡◌, ◌≤◌, ◌<◌, ◌/◌, ℕ, slice_index}
use Rattle.bq_workload.specs.Minima.{HasOtherMinima}
use Rattle.bq_workload.proofs.event_queue.recompute.Given as goal

abbrev pub invariant-up : goal.invariant-up
invariant-up l = record {
  low : 1 ≤ l.node;
  high : l.node < 4096;
  others : HasOtherMinima (l.node / 2) l.numbers;
  leaves : (k : ℕ) → 2048 ≤ k → slice_index l.numbers k ≡ slice_index l.initial.numbers k;
}

abbrev pub decreases-up : goal.decreases-up
decreases-up l = l.node
