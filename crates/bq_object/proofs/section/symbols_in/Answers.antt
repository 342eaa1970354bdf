use Rattle.std.proofs.Common.{arith, below_more}
use Rattle.bq_object.proofs.section.symbols_in.Goals as goal

pub loop-index-preserved : goal.loop-index-preserved
loop-index-preserved c = below_more _ _ c.loop-index.invariant c.in_default.ensures.none

pub returns-clause-none : goal.returns-clause-none
returns-clause-none c = λ k other here. let fits = here.header_is.fits in c.loop-index.invariant k (omega (arith, fits)) other here
