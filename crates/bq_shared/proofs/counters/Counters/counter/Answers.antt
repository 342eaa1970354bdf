use Rattle.std.proofs.Common.{◌<◌, refl, sym, ◌∙◌, arith}
use Rattle.atomic_table.specs.Table.{keeps}
use Rattle.bq_shared.proofs.KeepingLemmas.{sums_after_unrecorded_read}
use Rattle.bq_shared.proofs.counters.Counters.counter.Goals as goal

pub load-requires : goal.load-requires
load-requires g c =
    let low : c.from.result < 64 = omega (arith, c.from.ensures, c.requires) in (
      c.account.invariant.0 ∙ sym c.self.invariant.0,
      omega (arith, low, c.self.invariant.1),
      λ s rule homes at small. (
        c.account.inside.seat.me.0,
        keeps,
        tt,
        sums_after_unrecorded_read c.self.inside.table.shared.key s.words s.views c.account.inside.seat.id c.from.result
            c.account.inside.seat.me.0 rule at low small,
        (refl, refl),
      ),
    )
