use Rattle.std.proofs.Common.{ap, arith}
use Rattle.bq_tree.specs.Trees.{in_order_behind}
use Rattle.bq_disc.specs.declared.totals.Totals.{Totals}
use Rattle.bq_disc.proofs.QueueLemmas.{length-few}
use Rattle.bq_tree.proofs.tree.TreeTaskOrder.totals.Goals as goal

pub returns-clause-few : goal.returns-clause-few
returns-clause-few g c =
    let few = length-few (in_order_behind c.self.inside.root) c.self.invariant.distinct c.self.invariant.small in
    omega (arith, few, ap (λ (s : Totals). s.count) c.totals.ensures.sums)

pub totals-requires-clause-few : goal.totals-requires-clause-few
totals-requires-clause-few g c = length-few (in_order_behind c.self.inside.root) c.self.invariant.distinct c.self.invariant.small
