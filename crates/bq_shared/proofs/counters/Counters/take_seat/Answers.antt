use Rattle.std.proofs.Common.{◌≡◌, ◌≤◌, [], sym, ◌∙◌, arith}
use Rattle.bq_shared.proofs.KeepingLemmas.{parts}
use Rattle.bq_shared.proofs.counters.Counters.take_seat.Goals as goal

pub split_seat-seat-requires : goal.split_seat-seat-requires
split_seat-seat-requires g c =
    let some_seat : 1 ≤ c.from.inside.seat.me.0.seats = rw c.from.view_is c.requires.0 in
    let none : c.from.inside.seat.me.0.calls ≡ [] = rw c.from.view_is c.requires.1 in (
      c.from.invariant.0 ∙ sym c.self.invariant.0,
      omega (arith, c.self.invariant.1),
      λ s rule at.
          parts c.self.inside.table.shared.key s.words s.views c.from.inside.seat.id c.from.inside.seat.me.0
          rule at some_seat none,
    )
