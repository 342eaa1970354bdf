use Rattle.std.proofs.Common.{sym, ◌∙◌, arith}
use Rattle.bq_shared.proofs.KeepingLemmas.{joins}
use Rattle.bq_shared.proofs.counters.Counters.join.Goals as goal

pub join_seat-requires : goal.join_seat-requires
join_seat-requires g c = (
  c.to.invariant.0 ∙ sym c.self.invariant.0,
  c.other.invariant.0 ∙ sym c.self.invariant.0,
  c.other.invariant.1,
  omega (arith, c.self.invariant.1),
  λ s rule at apart there.
      joins c.self.inside.table.shared.key s.words s.views c.to.inside.seat.id c.to.inside.seat.me.0 rule at
      c.other.inside.seat.id c.other.inside.seat.me.0 apart there,
)
