use Rattle.std.proofs.Common.{◌≡◌, ◌*◌, ◌%◌, ◌^◌, ◌<◌, arith}
use Rattle.std.specs.Int.{w64, trailing_zeros}
use Rattle.std.proofs.lemmas.Nat.{pow_below}
use Rattle.std.proofs.lemmas.Nat.Bits.{bit_at-trailing_zeros}
use Rattle.bq_ranges.proofs.BitLemmas.{mask_left}
use Rattle.bq_ranges.proofs.bits.multiple_within.Goals as goal

pub returns-clause-holds : goal.returns-clause-holds
returns-clause-holds c = λ x y p below.
    let k = trailing_zeros w64 c.args.mask.lo in
    let small : k < 64 = (bit_at-trailing_zeros w64 c.args.mask.lo (omega arith) (omega arith)).0 in
    let word : 2 ^ k < 2 ^ 64 = pow_below k 64 small in
    let whole : 1 * 2 ^ k % 2 ^ 64 ≡ 2 ^ k = omega arith in
    let same : y ≡ c.args.mask.lo = omega (arith, c.is_single.ensures.0 c.if-not-is_single.false) in
    let divided = rw whole at c.if-mask-zeros-ne0.false in
    rw whole (mask_left x y c.args.most k (rw same divided) below)
