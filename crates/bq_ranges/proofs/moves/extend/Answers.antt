use Rattle.std.proofs.Common.{◌/◌, arith}
use Rattle.bq_ranges.proofs.MoveLemmas.{extended_fits, extended_plain}
use Rattle.bq_ranges.proofs.moves.extend.Goals as goal

pub returns-clause-holds : goal.returns-clause-holds
returns-clause-holds c = λ x p. let word = extended_fits c.args.width c.args.bits x in (omega arith, omega arith)

pub returns-then-a-greatest-clause-holds : goal.returns-then-a-greatest-clause-holds
returns-then-a-greatest-clause-holds c = λ x p.
    let plain = extended_plain c.args.width c.args.bits x (c.of_bits.result.hi / 2) (omega arith) (omega arith) (omega arith) in
    rw plain p
