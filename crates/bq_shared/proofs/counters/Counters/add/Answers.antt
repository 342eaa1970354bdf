use Rattle.std.proofs.Common.{◌<◌, ◌≤◌, refl, sym, ◌∙◌, arith}
use Rattle.std.specs.Prelude.{slice_index}
use Rattle.bq_bpf.specs.declared.board.CounterCall.TheVariants.{Add}
use Rattle.atomic_table.specs.Table.{keeps}
use Rattle.bq_shared.specs.Sums.{account_called}
use Rattle.bq_shared.proofs.KeepingLemmas.{sums_after_add}
use Rattle.bq_shared.proofs.counters.Counters.add.Goals as goal

pub fetch_add-requires : goal.fetch_add-requires
fetch_add-requires g c =
    let low : c.from.result < 64 = omega (arith, c.from.ensures, c.requires.counter) in
    let some_seat : 1 ≤ c.account.inside.seat.me.0.seats = rw c.account.view_is c.requires.seat in (
      c.account.invariant.0 ∙ sym c.self.invariant.0,
      omega (arith, low, c.self.invariant.1),
      λ s rule homes at small. (
        account_called c.account.inside.seat.me.0 (Add c.from.result c.args.amount (slice_index s.words c.from.result)),
        keeps,
        tt,
        sums_after_add c.self.inside.table.shared.key s.words s.views c.account.inside.seat.id c.from.result c.args.amount
            c.account.inside.seat.me.0 rule at low some_seat,
        (refl, refl),
      ),
    )
