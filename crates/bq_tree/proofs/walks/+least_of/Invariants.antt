use Rattle.std.proofs.Common.{length}
use Rattle.bq_tree.specs.Trees.{in_order}
use Rattle.bq_tree.proofs.walks.+least_of.Given as goal

abbrev pub decreases-least_of : goal.decreases-least_of
decreases-least_of l = length (in_order l.node.now)
