use Rattle.std.proofs.Common.{arith}
use Rattle.bq_history.proofs.MoveLemmas.{ends}
use Rattle.bq_history.proofs.owner.Owner.close.Goals as goal

pub free-requires : goal.free-requires
free-requires g c = λ k l. absurd (omega (arith, c.close_with.ensures.counts.1, c.self.invariant.1.1))

pub returns : goal.returns
returns g c =
    let f = c.close_with.ensures.values.2 in
    rw (← c.self.view_is, ← c.all.view_is)
    (ends g.L.Law.same (g.L.Law.good c.self.inside.table.shared.key) g.L.Law.fits f.0.views c.all.inside.seat.id
    c.all.inside.seat.me.0 f.1.0 f.1.1)
