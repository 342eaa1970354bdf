use Rattle.bq_needs.proofs.NeedLemmas.{one_more}
use Rattle.bq_needs.proofs.needs.pointer_worked_on.Goals as goal

pub loop-register-preserved : goal.loop-register-preserved
loop-register-preserved c =
    one_more c.args.state.now c.args.insn c.loop-register.register c.loop-register.invariant c.in_default.ensures.pointer
