use Rattle.std.proofs.Common.{◌≡◌}
use Rattle.bq_par.specs.Shifts.{TicksMore}
use Rattle.bq_par.proofs.shift.tick_all.Given as goal

abbrev pub invariant-ticks : goal.invariant-ticks
invariant-ticks g l = record {
  held : l.seat ≡ (l.initial.seat.0, l.receipts.items);
  ticked : TicksMore l.processor l.counter l.initial.receipts.items l.receipts.items;
}
