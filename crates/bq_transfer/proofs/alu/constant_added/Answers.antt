use Rattle.std.proofs.Common.{◌≡◌, ◌+◌, ◌%◌, ◌^◌, ℕ, arith, rules, subst}
use Rattle.bq_insn.specs.declared.Width.TheVariants.{W64}
use Rattle.bq_insn.specs.declared.Operation.TheVariants.{Add}
use Rattle.bq_bpf.specs.Meaning.{alu_result}
use Rattle.bq_states.specs.declared.abstract_state.ValueKind.TheVariants.{Number}
use Rattle.bq_states.proofs.WordLemmas.{number_within}
use Rattle.bq_transfer.proofs.PlaceLemmas.{sum_is}
use Rattle.bq_transfer.proofs.alu.constant_added.Goals as goal

pub returns-in-W64 : goal.returns-in-W64
returns-in-W64 c = λ shapes x y p q.
    let number : c.args.right.kind ≡ Number = search rules in
    let sum : c.args.op ≡ Add = search rules in
    let single = c.is_single.ensures.0 c.if-not-is_single.false in
    let within = number_within shapes c.args.right y number q in
    let same : y ≡ c.args.right.offset.lo = omega (arith, within, single) in
    rw (c.in-W64.is, sum) (subst (λ (n : ℕ). alu_result W64 Add x y ≡ (x + n) % 2 ^ 64) same (sum_is x y))
