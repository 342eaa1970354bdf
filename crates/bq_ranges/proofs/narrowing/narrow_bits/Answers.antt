use Rattle.std.proofs.Common.{arith}
use Rattle.bq_ranges.proofs.BitLemmas.{apart_below}
use Rattle.bq_ranges.proofs.narrowing.narrow_bits.Goals as goal

pub returns : goal.returns
returns c = λ a b p q h.
    let room = apart_below c.args.width a b (omega arith) (omega arith) (rw c.if-goes.false at h) in
    c.at_most.ensures.holds a p (omega arith)
