use Rattle.std.proofs.Common.{length}
use Rattle.bq_tree.specs.Trees.{in_order_behind}
use Rattle.bq_tree.proofs.walks.+earliest_of_all.Given as goal

abbrev pub decreases-earliest_of_all : goal.decreases-earliest_of_all
decreases-earliest_of_all l = length (in_order_behind l.link.now)
