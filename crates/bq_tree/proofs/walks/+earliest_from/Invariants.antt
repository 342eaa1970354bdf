use Rattle.std.proofs.Common.{length}
use Rattle.bq_tree.specs.Trees.{in_order_behind}
use Rattle.bq_tree.proofs.walks.+earliest_from.Given as goal

abbrev pub decreases-earliest_from : goal.decreases-earliest_from
decreases-earliest_from l = length (in_order_behind l.link.now)
