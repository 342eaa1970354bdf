use Rattle.bq_verify.proofs.SpreadLemmas.{spread_more}
use Rattle.bq_verify.proofs.layout.lay_out.Goals as goal

pub loop-insn-preserved : goal.loop-insn-preserved
loop-insn-preserved c =
    spread_more c.args.insns.now c.loop-insn.insn-index _ c.loop-insn.slots.items c.place.new.slots.items
    c.loop-insn-test.true c.loop-insn.invariant c.in_ok-place.ensures
