use Rattle.std.proofs.Common.{◌≢◌, ◌≤◌, ◌<◌, ℕ}
use Rattle.std.specs.Prelude.{slice_index_or}
use Rattle.bq_history.proofs.order.find.Given as goal

abbrev pub invariant-loop-i : goal.invariant-loop-i
invariant-loop-i g l = (m : ℕ) → l.from ≤ m → m < l.i → (d : _) → g.T.Placed.place (slice_index_or l.items m d) ≢ l.from
