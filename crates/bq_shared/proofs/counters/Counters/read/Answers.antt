use Rattle.std.proofs.Common.{◌<◌, ◌≤◌, refl, sym, ◌∙◌, arith}
use Rattle.std.specs.Prelude.{slice_index}
use Rattle.bq_bpf.specs.declared.board.CounterCall.TheVariants.{Read}
use Rattle.atomic_table.specs.Table.{keeps}
use Rattle.bq_shared.specs.Sums.{account_called}
use Rattle.bq_shared.proofs.KeepingLemmas.{sums_after_read}
use Rattle.bq_shared.proofs.counters.Counters.read.Goals as goal

pub load-requires : goal.load-requires
load-requires g c =
    let low : c.from.result < 64 = omega (arith, c.from.ensures, c.requires.counter) in
    let some_seat : 1 ≤ c.account.inside.seat.me.0.seats = rw c.account.view_is c.requires.seat in (
      c.account.invariant.0 ∙ sym c.self.invariant.0,
      omega (arith, low, c.self.invariant.1),
      λ s rule homes at small. (
        account_called c.account.inside.seat.me.0 (Read c.from.result (slice_index s.words c.from.result)),
        keeps,
        tt,
        sums_after_read c.self.inside.table.shared.key s.words s.views c.account.inside.seat.id c.from.result
            c.account.inside.seat.me.0 rule at low some_seat small,
        (refl, refl),
      ),
    )
