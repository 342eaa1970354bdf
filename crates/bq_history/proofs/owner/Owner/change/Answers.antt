use Rattle.std.proofs.Common.{refl, sym, ◌∙◌, arith}
use Rattle.bq_history.specs.Whole.{MayExchange}
use Rattle.atomic_table.specs.Table.{keeps}
use Rattle.bq_history.proofs.MoveLemmas.{changes}
use Rattle.bq_history.proofs.owner.Owner.change.Goals as goal

pub load-requires : goal.load-requires
load-requires g c =
    let may : MayExchange g.L.Law.same (g.L.Law.good c.self.inside.table.shared.key) g.L.Law.fits
    c.holder.inside.seat.me.0 g.C.Holding.items = rw (c.self.view_is, c.holder.view_is) c.requires.changes in (
      c.holder.invariant.0 ∙ sym c.self.invariant.0,
      omega (arith, c.self.invariant.1),
      λ s k homes at small. (
        g.C.Holding.items,
        keeps,
        tt,
        changes g.L.Law.same (g.L.Law.good c.self.inside.table.shared.key) g.L.Law.fits s.views c.holder.inside.seat.id
            c.holder.inside.seat.me.0 g.C.Holding.items k at may,
        (refl, refl),
      ),
    )
