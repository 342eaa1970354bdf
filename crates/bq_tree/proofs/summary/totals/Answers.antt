use Rattle.bq_tree.proofs.BoundLemmas.{bounded_root}
use Rattle.bq_tree.proofs.summary.totals.Goals as goal

pub returns-in-Some-clause-bounds : goal.returns-in-Some-clause-bounds
returns-in-Some-clause-bounds c = rw c.deref.ensures (bounded_root _ _ c.in-Some.is c.requires)
