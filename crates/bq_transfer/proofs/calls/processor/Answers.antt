use Rattle.std.proofs.Common.{refl, inr, arith}
use Rattle.bq_bpf.specs.Steps.{called}
use Rattle.bq_transfer.proofs.calls.processor.Goals as goal

pub returns-clause-transfers : goal.returns-clause-transfers
returns-clause-transfers c = λ shapes context_length f s suits contains. (
  called s f.processor,
  inr (inr (inr (refl, refl))),
  c.answer.ensures.contains f s f.processor contains
      (omega (arith, c.full.ensures.lo), omega (arith, c.full.ensures.hi, suits.processor_fits)),
  refl,
)
