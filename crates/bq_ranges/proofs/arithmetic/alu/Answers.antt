use Rattle.std.proofs.Common.{◌≡◌, ◌%◌, arith}
use Rattle.bq_bpf.specs.Meaning.{modulus}
use Rattle.bq_ranges.proofs.TightLemmas.{tight_within, low_bits_reach, least_reached, greatest_reached, common_below}
use Rattle.bq_ranges.proofs.arithmetic.alu.Goals as goal

pub returns-then-is_single-2-clause-and_left : goal.returns-then-is_single-2-clause-and_left
returns-then-is_single-2-clause-and_left c = λ same.
    let below = (common_below c.args.width c.args.a.lo c.args.b.lo).0 in
    let word = rw same at c.alu.ensures in
    omega arith

pub returns-then-is_single-2-clause-and_right : goal.returns-then-is_single-2-clause-and_right
returns-then-is_single-2-clause-and_right c = λ same.
    let below = (common_below c.args.width c.args.a.lo c.args.b.lo).1 in
    let word = rw same at c.alu.ensures in
    omega arith

pub returns-clause-tight : goal.returns-clause-tight
returns-clause-tight c = λ promised.
    let within =
    tight_within c.args.width c.args.op c.args.a c.args.b c.low.result c.low-2.result c.low.ensures.tight_low
    c.low.ensures.tight_high c.low-2.ensures.tight_low c.low-2.ensures.tight_high promised in
    record {
      low =
          low_bits_reach c.args.width c.args.op c.args.a c.args.b _ _ _ c.low.ensures.tight_low
          (least_reached c.args.width c.args.op c.args.b c.low-2.result c.low-2.ensures.tight_low c.low-2.ensures.tight_high)
          (c.outcomes.ensures.tight_low within);
      high =
          low_bits_reach c.args.width c.args.op c.args.a c.args.b _ _ _ c.low.ensures.tight_high
          (greatest_reached c.args.width c.args.op c.args.b c.low-2.result c.low-2.ensures.tight_low c.low-2.ensures.tight_high)
          (c.outcomes.ensures.tight_high within);
    }

pub returns-then-is_single-2-clause-holds : goal.returns-then-is_single-2-clause-holds
returns-then-is_single-2-clause-holds c = λ x y p q.
    let left : x ≡ c.args.a.lo = omega (arith, c.is_single.ensures.0 c.if-is_single.true) in
    let right : y ≡ c.args.b.lo = omega (arith, c.is_single-then-is_single.ensures.0 c.if-is_single-2.true) in
    rw (left, right) (omega arith)

pub returns-then-is_single-2-clause-tight : goal.returns-then-is_single-2-clause-tight
returns-then-is_single-2-clause-tight c = λ promised.
    record {
      low = (c.args.a.lo, c.args.b.lo, (omega arith, omega arith), (omega arith, omega arith), omega arith);
      high = (c.args.a.lo, c.args.b.lo, (omega arith, omega arith), (omega arith, omega arith), omega arith);
    }

pub returns-clause-holds : goal.returns-clause-holds
returns-clause-holds c = λ x y p q.
    c.outcomes.ensures.holds (x % modulus c.args.width) (y % modulus c.args.width) (c.low.ensures.holds x p) (c.low-2.ensures.holds y q)
