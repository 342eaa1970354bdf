use Rattle.std.proofs.Common.{refl}
use Rattle.bq_needs.proofs.NeedLemmas.{pointer_no_number}
use Rattle.bq_needs.proofs.needs.pointer_need.Goals as goal

pub returns : goal.returns
returns c = (
  (c.in-Some.pointer, refl, c.in-Some.ensures),
  pointer_no_number c.args.state.now c.args.insn c.in-Some.pointer.register c.in-Some.pointer.known c.in-Some.ensures,
)
