use Rattle.std.proofs.Common.{refl, inl, inr, arith}
use Rattle.bq_bpf.specs.Steps.{called}
use Rattle.bq_transfer.proofs.calls.now.Goals as goal

pub returns-clause-transfers : goal.returns-clause-transfers
returns-clause-transfers c = λ shapes context_length f s suits contains. (
  called s f.now,
  inr (inr (inl (refl, refl))),
  c.answer.ensures.contains f s f.now contains
      (omega (arith, c.full.ensures.lo), omega (arith, c.full.ensures.hi, suits.now_fits)),
  refl,
)
