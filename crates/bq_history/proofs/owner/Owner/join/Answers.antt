use Rattle.std.proofs.Common.{sym, ◌∙◌, arith}
use Rattle.bq_history.proofs.MoveLemmas.{joins}
use Rattle.bq_history.proofs.owner.Owner.join.Goals as goal

pub join_seat-requires : goal.join_seat-requires
join_seat-requires g c = (
  c.to.invariant.0 ∙ sym c.self.invariant.0,
  c.other.invariant.0 ∙ sym c.self.invariant.0,
  c.other.invariant.1,
  omega (arith, c.self.invariant.1),
  λ s k at apart there.
      joins g.L.Law.same (g.L.Law.good c.self.inside.table.shared.key) g.L.Law.fits s.views c.to.inside.seat.id
      c.other.inside.seat.id c.to.inside.seat.me.0 c.other.inside.seat.me.0 k at apart there,
)
