use Rattle.std.proofs.Common.{sym, ◌∙◌, arith}
use Rattle.bq_shared.proofs.KeepingLemmas.{takes}
use Rattle.bq_shared.proofs.counters.Counters.take_all.Goals as goal

pub split_seat-seat-requires : goal.split_seat-seat-requires
split_seat-seat-requires g c = (
  c.from.invariant.0 ∙ sym c.self.invariant.0,
  omega (arith, c.self.invariant.1),
  λ s rule at. takes c.self.inside.table.shared.key s.words s.views c.from.inside.seat.id c.from.inside.seat.me.0 rule at,
)
