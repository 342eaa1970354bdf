use Rattle.std.proofs.Common.{◌≡◌, length}
use Rattle.bq_history.specs.Places.{AreAll, ArePlaced, AreFrom}
use Rattle.bq_history.proofs.order.in_order.Given as goal

abbrev pub invariant-loop-k : goal.invariant-loop-k
invariant-loop-k g l = record {
  long : length l.items ≡ length l.initial.items;
  placed : ArePlaced g.T.Placed.place l.k l.items;
  each : AreAll g.T.Placed.place l.items;
  came : AreFrom l.initial.items l.items;
}
