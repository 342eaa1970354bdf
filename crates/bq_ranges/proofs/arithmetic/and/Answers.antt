use Rattle.std.proofs.Common.{◌≤◌, arith}
use Rattle.std.specs.Prelude.{bit_and}
use Rattle.std.proofs.lemmas.Nat.{and_comm, and_le_l, and_le_r}
use Rattle.bq_ranges.proofs.arithmetic.and.Goals as goal

pub returns-clause-holds : goal.returns-clause-holds
returns-clause-holds c = λ x y p q.
    let left = and_le_l x y in
    let right = and_le_r x y in
    let low : bit_and y x ≤ c.min.result = rw (and_comm y x) (omega arith) in
    let below = c.multiple_within-hi.ensures.holds y x p low in
    (omega arith, c.multiple_within.ensures.holds x y q (rw (and_comm x y) below))
