use Rattle.std.proofs.Common.{refl, sym, ◌∙◌, arith}
use Rattle.bq_history.specs.Whole.{Has}
use Rattle.atomic_table.specs.Table.{keeps}
use Rattle.bq_history.proofs.MoveLemmas.{ends, stays}
use Rattle.bq_history.proofs.owner.Owner.look_for.Goals as goal

pub load-requires : goal.load-requires
load-requires g c =
    let known : Has g.L.Law.same (g.L.Law.good c.self.inside.table.shared.key) g.L.Law.fits c.holder.inside.seat.me.0
    → g.F.Fact.fact = rw (c.self.view_is, c.holder.view_is) c.requires in (
      c.holder.invariant.0 ∙ sym c.self.invariant.0,
      omega (arith, c.self.invariant.1),
      λ s k homes at small. (
        c.holder.inside.seat.me.0,
        keeps,
        tt,
        stays g.L.Law.same (g.L.Law.good c.self.inside.table.shared.key) g.L.Law.fits s.views c.holder.inside.seat.id
            c.holder.inside.seat.me.0 k at,
        (
          refl,
          known (ends g.L.Law.same (g.L.Law.good c.self.inside.table.shared.key) g.L.Law.fits s.views
              c.holder.inside.seat.id c.holder.inside.seat.me.0 k at),
        ),
      ),
    )
