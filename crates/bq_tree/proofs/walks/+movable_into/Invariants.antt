use Rattle.std.proofs.Common.{length}
use Rattle.bq_tree.specs.Trees.{in_order_behind}
use Rattle.bq_tree.proofs.walks.+movable_into.Given as goal

abbrev pub decreases-movable_into : goal.decreases-movable_into
decreases-movable_into l = length (in_order_behind l.link.now)
