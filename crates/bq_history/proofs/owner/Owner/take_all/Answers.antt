use Rattle.std.proofs.Common.{sym, ◌∙◌, arith}
use Rattle.bq_history.proofs.MoveLemmas.{takes}
use Rattle.bq_history.proofs.owner.Owner.take_all.Goals as goal

pub split_seat-seat-requires : goal.split_seat-seat-requires
split_seat-seat-requires g c = (
  c.from.invariant.0 ∙ sym c.self.invariant.0,
  omega (arith, c.self.invariant.1),
  λ s k at.
      takes g.L.Law.same (g.L.Law.good c.self.inside.table.shared.key) g.L.Law.fits s.views c.from.inside.seat.id
      c.from.inside.seat.me.0 k at,
)
