use Rattle.std.proofs.Common.{arith}
use Rattle.std.proofs.lemmas.Nat.{or_lt}
use Rattle.bq_ranges.proofs.OutcomeLemmas.{union_between}
use Rattle.bq_ranges.proofs.arithmetic.or.Goals as goal

pub returns : goal.returns
returns c = λ x y p q.
    let between = union_between c.args.width x y (omega arith) (omega arith) in
    (omega arith, c.highest.ensures.least _ (omega arith) between.3 (λ k left right. or_lt k x y (omega arith) (omega arith)))
