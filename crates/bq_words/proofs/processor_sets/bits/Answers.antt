use Rattle.std.proofs.Common.{◌+◌, ◌^◌, ◌≤◌, arith}
use Rattle.std.proofs.lemmas.Nat.{one_shl}
use Rattle.std.proofs.Math.Pow.{pow_mono}
use Rattle.bq_words.proofs.processor_sets.bits.Goals as goal

pub overflow_sub-result : goal.overflow_sub-result
overflow_sub-result c =
    let first = one_shl c.args.first 128 (omega arith) in
    let last = one_shl (c.args.last + 1) 128 (omega arith) in
    let order : 2 ^ c.args.first ≤ 2 ^ (c.args.last + 1) = pow_mono (omega arith) in
    omega (arith, first, last, order)
