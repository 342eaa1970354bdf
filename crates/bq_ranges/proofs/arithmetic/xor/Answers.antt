use Rattle.std.proofs.Common.{arith}
use Rattle.std.proofs.lemmas.Nat.{xor_lt}
use Rattle.bq_ranges.proofs.OutcomeLemmas.{difference_between}
use Rattle.bq_ranges.proofs.arithmetic.xor.Goals as goal

pub returns : goal.returns
returns c = λ x y p q.
    let between = difference_between c.args.width x y (omega arith) (omega arith) in
    (omega arith, c.highest.ensures.least _ (omega arith) between.1 (λ k left right. xor_lt k x y (omega arith) (omega arith)))
