use Rattle.std.proofs.Common.{◌≡◌, ℕ, subst, arith}
use Rattle.bq_insn.specs.Slots.{byte_count}
use Rattle.bq_bpf.specs.Steps.{low_bytes}
use Rattle.bq_states.specs.Parts.{HasBytes}
use Rattle.bq_states.proofs.parts.store_part.Goals as goal

pub returns-then-is_single : goal.returns-then-is_single
returns-then-is_single c = λ stack o v within word has have.
    let single = c.is_single.ensures.0 c.if-is_single.true in
    let place : o ≡ c.args.at.lo = omega (arith, single, within) in
    c.keep_part.ensures stack v word (subst (λ (n : ℕ). HasBytes stack n (byte_count c.args.size) (low_bytes c.args.size v)) place has) have
