-- A tick more each time.
use Rattle.std.proofs.Common.{rules}
use Rattle.bq_par.proofs.ShiftLemmas.{none_more, one_more}
use Rattle.bq_par.proofs.shift.tick_all.Goals as goal

pub ticks-init : goal.ticks-init
ticks-init g c = record { held = search rules; ticked = none_more c.args.duty.now.processor c.args.receipts.now.items }

pub ticks-preserved : goal.ticks-preserved
ticks-preserved g c =
    let event = c.in_ok-ticked.ensures.event in
    record {
      held = search rules;
      ticked =
          rw c.in_ok-push_receipt.ensures (one_more c.args.duty.now.processor c.ticks.counter c.args.receipts.now.items
          c.ticks.receipts.items c.in_ok-ticked.ticked (event.0, event.2) c.ticks.invariant.ticked);
    }
