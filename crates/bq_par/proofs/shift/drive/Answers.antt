-- The shift is its beginning and its ticks.
use Rattle.std.proofs.Common.{◌≡◌, ℕ, List, subst, sym, rules}
use Rattle.bq_history.specs.declared.shared_state.Receipt.{Receipt}
use Rattle.bq_shared.specs.declared.record.Record.{Record}
use Rattle.bq_par.specs.Shifts.{IsShift}
use Rattle.bq_par.proofs.shift.drive.Goals as goal

pub returns-clause-shift : goal.returns-clause-shift
returns-clause-shift g c =
    let p = c.number-processor.result in
    let all = c.tick_all.new.receipts.items in
    let own : c.start.new.seat.0 ≡ p = search rules in
    let shift : IsShift p c.args.ticks all = record {
      start = c.start.new.receipts.items;
      started = c.in_ok-start.ensures.start;
      ticked = c.in_ok-tick_all.ensures.ticks;
    } in
    subst (λ (s : ℕ × List (Receipt Record)). IsShift s.0 c.args.ticks s.1) (sym c.in_ok-tick_all.ensures.held)
    (subst (λ (k : ℕ). IsShift k c.args.ticks all) (sym own) shift)
