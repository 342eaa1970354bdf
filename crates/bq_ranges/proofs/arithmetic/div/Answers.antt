use Rattle.std.proofs.Common.{arith}
use Rattle.bq_ranges.proofs.OutcomeLemmas.{ratios_between}
use Rattle.bq_ranges.proofs.arithmetic.div.Goals as goal

pub returns-clause-holds : goal.returns-clause-holds
returns-clause-holds c = λ x y p q some. ratios_between c.args.a c.args.b x y (omega arith) p q
