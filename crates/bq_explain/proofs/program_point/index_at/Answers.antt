use Rattle.std.proofs.Common.{◌≡◌, ℕ, Some, sym, ◌∙◌, subst}
use Rattle.bq_insn.specs.Slots.{spread}
use Rattle.bq_bpf.specs.Steps.{instruction_at}
use Rattle.bq_explain.proofs.SlotLemmas.{slots_more, stands_behind}
use Rattle.bq_explain.proofs.program_point.index_at.Goals as goal

pub returns-then-at-slot : goal.returns-then-at-slot
returns-then-at-slot c insn is =
    let at : c.loop-index.at ≡ c.args.slot = c.if-at-slot.true in
    subst (λ (n : ℕ). instruction_at (spread c.args.insns.now) n ≡ Some insn) (sym c.loop-index.invariant ∙ at)
    (stands_behind c.args.insns.now c.loop-index.index insn is)

pub loop-index-preserved : goal.loop-index-preserved
loop-index-preserved c =
    slots_more c.args.insns.now c.loop-index.index _ c.loop-index.at c.slots.result c.in_ok-at.at c.loop-index-test.true
    c.loop-index.invariant c.slots.ensures c.in_ok-at.ensures.1
