use Rattle.std.proofs.Common.{◌≡◌, ◌^◌, ◌%◌, arith}
use Rattle.bq_bpf.specs.Meaning.{bit_count}
use Rattle.bq_ranges.proofs.OutcomeLemmas.{shifts_up}
use Rattle.bq_ranges.proofs.arithmetic.lsh.Goals as goal

pub returns-then-a-greatest : goal.returns-then-a-greatest
returns-then-a-greatest c = λ x y p q.
    let same : y ≡ c.args.b.lo = omega (arith, c.is_single.ensures.0 c.if-is_single.true) in
    let room = rw c.bits.ensures at c.if-a-greatest.true in
    rw (same, c.bits.ensures)
    (shifts_up c.args.width c.args.a c.greatest.result (2 ^ (c.args.b.lo % bit_count c.args.width)) x c.greatest.ensures room p)
