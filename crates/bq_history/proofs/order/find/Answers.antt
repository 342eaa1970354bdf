use Rattle.std.proofs.Common.{arith}
use Rattle.bq_history.proofs.PlacingLemmas.{item_at}
use Rattle.bq_history.proofs.order.find.Goals as goal

pub unreachable-requires : goal.unreachable-requires
unreachable-requires g c =
    let w = c.requires.there in
    let d = item_at c.args.items.now w.0 w.2.0 in
    c.loop-i.invariant w.0 w.1 (omega (arith, w.2.0, c.loop-i-test.false)) d (w.2.1 d)
