use Rattle.bq_verify.proofs.CountLemmas.{raises_set}
use Rattle.bq_verify.proofs.graph_numbers.raise.Goals as goal

pub returns : goal.returns
returns c =
    rw c.in-Some.is
    (raises_set c.args.most.now c.in-Some.to c.greater.result c.args.count (c.requires c.in-Some.to c.in-Some.is) c.greater.ensures.count
    (rw c.count_at-old.ensures at c.greater.ensures.old) (rw c.count_at-old.ensures at c.greater.ensures.one))
