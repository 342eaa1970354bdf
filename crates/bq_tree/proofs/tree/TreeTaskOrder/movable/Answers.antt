use Rattle.std.proofs.Common.{arith}
use Rattle.bq_tree.specs.Trees.{in_order_behind}
use Rattle.bq_disc.proofs.QueueLemmas.{length-few}
use Rattle.bq_tree.proofs.tree.TreeTaskOrder.movable.Goals as goal

pub movable_into-requires-clause-few : goal.movable_into-requires-clause-few
movable_into-requires-clause-few g c =
    omega (arith, length-few (in_order_behind c.self.inside.root) c.self.invariant.distinct c.self.invariant.small)
