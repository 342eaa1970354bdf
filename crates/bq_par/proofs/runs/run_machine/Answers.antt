-- Each seat is fresh, and each comes back.
use Rattle.std.proofs.Common.{length, arith, rules, ap}
use Rattle.bq_shared.specs.declared.record.Record.{Record}
use Rattle.bq_par.proofs.CountLemmas.{fresh_many, fresh_at}
use Rattle.bq_par.proofs.runs.run_machine.Goals as goal

pub drive_all-requires-clause-fresh : goal.drive_all-requires-clause-fresh
drive_all-requires-clause-fresh g c κs within = (
  omega arith,
  λ i d lt.
      let at = fresh_at Record g.row.P c.in_ok-machine.seats.items c.in_ok-machine.ensures.seats i d lt in
      let low = at.0 in
      (omega (arith, low, c.requires.few), at.1),
)

pub finish-requires : goal.finish-requires
finish-requires g c =
    let seats = ap (λ l. length l) c.in_ok-machine.ensures.seats in
    let fresh = fresh_many Record 0 g.row.P in (
      search rules,
      (
        c.in_ok-machine.ensures.history.1,
        (omega (arith, c.in_ok-done.ensures.many, c.in_ok-machine.seats.ok.0, seats, fresh), c.in_ok-done.ensures.shifts),
      ),
    )
