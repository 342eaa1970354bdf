use Rattle.std.proofs.Common.{arith}
use Rattle.bq_import.proofs.KeepLemmas.{all_followed}
use Rattle.bq_import.proofs.reached.find_reached.Goals as goal

pub returns : goal.returns
returns c =
    let end = c.loop-slot-test.false in
    all_followed c.args.old.now c.loop-slot.slot c.loop-slot.reached.items (omega (arith, end)) c.loop-slot.invariant
