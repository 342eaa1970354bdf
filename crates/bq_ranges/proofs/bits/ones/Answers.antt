use Rattle.std.proofs.Common.{◌≡◌, ◌-◌, ◌^◌, ◌<◌, arith}
use Rattle.std.specs.Int.Count.{count_leading_zeros}
use Rattle.std.proofs.lemmas.Nat.{leading_length, pow_below, pow_pos}
use Rattle.bq_ranges.proofs.bits.ones.Goals as goal

pub returns-then-zeros-eq0-clause-ones : goal.returns-then-zeros-eq0-clause-ones
returns-then-zeros-eq0-clause-ones c =
    let t = leading_length 64 c.args.word (omega arith) in
    let whole : t.0 ≡ 64 = omega (arith, t.1, c.if-zeros-eq0.true) in
    (64, omega arith, rw whole at t.3)

pub returns-clause-ones : goal.returns-clause-ones
returns-clause-ones c =
    let t = leading_length 64 c.args.word (omega arith) in
    let rest : 64 - count_leading_zeros 64 c.args.word ≡ t.0 = omega (arith, t.1) in
    let below : 2 ^ t.0 < 2 ^ 64 = pow_below t.0 64 (omega (arith, t.1, c.if-zeros-eq0.false)) in
    let some = pow_pos t.0 in
    (t.0, rw rest (omega arith), t.3)

pub returns-clause-above : goal.returns-clause-above
returns-clause-above c =
    let t = leading_length 64 c.args.word (omega arith) in
    let rest : 64 - count_leading_zeros 64 c.args.word ≡ t.0 = omega (arith, t.1) in
    let below : 2 ^ t.0 < 2 ^ 64 = pow_below t.0 64 (omega (arith, t.1, c.if-zeros-eq0.false)) in
    rw rest (omega (arith, t.2))
