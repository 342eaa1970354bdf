use Rattle.std.proofs.Common.{arith, ◌^◌}
use Rattle.bq_transfer.proofs.CounterLemmas.{asks_add}
use Rattle.bq_transfer.proofs.counters.add.Goals as goal

pub returns-clause-asks : goal.returns-clause-asks
returns-clause-asks c =
    asks_add c.args.state.now c.answer.new.state (c.is_at_most.ensures.below c.if-not-is_at_most.false 64 (omega arith))
    (c.is_at_most-2.ensures.below c.if-not-is_at_most-2.false (2 ^ 64) (omega arith)) (λ f s x contains small.
    c.answer.ensures.contains f s x contains (omega (arith, c.full.ensures.lo), omega (arith, c.full.ensures.hi)))
