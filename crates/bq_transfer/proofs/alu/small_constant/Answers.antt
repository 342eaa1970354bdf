use Rattle.std.proofs.Common.{◌≡◌, ◌+◌, ◌^◌, ◌<◌, arith, ℕ, ◌%◌, subst}
use Rattle.bq_insn.specs.declared.Width.TheVariants.{W32}
use Rattle.bq_insn.specs.declared.Operation.TheVariants.{Add}
use Rattle.bq_bpf.specs.Meaning.{alu_result}
use Rattle.bq_transfer.proofs.SumLemmas.{half_sum_is}
use Rattle.bq_transfer.proofs.alu.small_constant.Goals as goal

pub returns : goal.returns
returns c = λ x y left right.
    let same : y ≡ c.args.right.lo = omega (arith, right, c.requires) in
    let small : x + y < 2 ^ 32 = omega (arith, left, right, c.if-right-gt4294967295.false, c.if-left-right.false) in
    subst (λ (n : ℕ). alu_result W32 Add x y ≡ (x + n) % 2 ^ 64) same (half_sum_is x y small)
