use Rattle.std.proofs.Common.{◌-◌, ◌%◌, sym, zero-add, arith}
use Rattle.bq_bpf.specs.Meaning.{modulus}
use Rattle.bq_ranges.proofs.moves.neg.Goals as goal

pub returns-clause-holds : goal.returns-clause-holds
returns-clause-holds c = λ x p.
    let at = c.sub.ensures.holds 0 (x % modulus c.args.width) (omega arith, omega arith) (c.low.ensures.holds x p) in
    rw (sym (zero-add (modulus c.args.width - x % modulus c.args.width))) at
