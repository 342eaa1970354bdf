use Rattle.std.proofs.Common.{arith}
use Rattle.bq_ranges.proofs.OutcomeLemmas.{shifts_down}
use Rattle.bq_ranges.proofs.arithmetic.rsh.Goals as goal

pub returns-then-is_single-clause-holds : goal.returns-then-is_single-clause-holds
returns-then-is_single-clause-holds c = λ x y p q. rw c.bits.ensures (shifts_down c.args.width c.args.a c.args.b.lo x y (omega arith) p)
