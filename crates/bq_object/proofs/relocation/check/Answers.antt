use Rattle.std.proofs.Common.{arith, below_more}
use Rattle.bq_object.proofs.relocation.check.Goals as goal

pub loop-index-preserved : goal.loop-index-preserved
loop-index-preserved c = below_more _ _ c.loop-index.invariant c.in_ok-check_at.ensures.ok

pub returns-clause-ok : goal.returns-clause-ok
returns-clause-ok c = λ k section here. let fits = here.header_is.fits in c.loop-index.invariant k (omega (arith, fits)) section here
