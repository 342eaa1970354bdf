use Rattle.std.proofs.Common.{◌≡◌, arith}
use Rattle.bq_bpf.specs.Meaning.{operate}
use Rattle.bq_insn.specs.declared.Operation.TheVariants as op
use Rattle.bq_ranges.proofs.BitLemmas.{plain_shift, sign_shifts}
use Rattle.bq_ranges.proofs.OutcomeLemmas.{holds_low_word, held_by_all}
use Rattle.bq_ranges.proofs.arithmetic.arsh.Goals as goal

pub returns-then-a-half : goal.returns-then-a-half
returns-then-a-half c = λ x y p q.
    let plain = plain_shift c.args.width c.sign-half.result x y c.sign-half.ensures (omega arith) in
    holds_low_word c.args.width c.rsh.result (operate c.args.width op.Arsh x y) (omega arith) (rw plain (c.rsh.ensures.holds x y p q))

pub returns : goal.returns
returns c = λ x y p q.
    let same : y ≡ c.args.b.lo = omega (arith, c.is_single.ensures.0 c.if-not-is_single.false) in
    rw c.bits.ensures (sign_shifts c.args.width c.sign-half.result c.greatest-most.result c.args.a c.args.b.lo x y
    c.sign-half.ensures c.greatest-most.ensures (omega arith) (omega arith) same p)

pub returns-then-a-half-2 : goal.returns-then-a-half-2
returns-then-a-half-2 c = λ x y p q.
    held_by_all c.args.width c.full.result (operate c.args.width op.Arsh x y) c.full.ensures.lo c.full.ensures.hi
