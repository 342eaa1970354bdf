use Rattle.std.proofs.Common.{◌≡◌, ℕ, arith, length, subst}
use Rattle.bq_verify.specs.Passes.{CountsFollowed}
use Rattle.bq_verify.proofs.CountLemmas.{most_is}
use Rattle.bq_verify.proofs.graph_numbers.count_calls.Goals as goal

pub returns : goal.returns
returns c =
    let end : c.loop-slot.slot ≡ length c.args.slots.now = omega arith in
    most_is c.args.slots.now c.loop-slot.most
    (subst (λ (n : ℕ). CountsFollowed c.args.slots.now n c.loop-slot.most) end c.loop-slot.invariant)
