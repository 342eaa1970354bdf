use Rattle.std.proofs.Common.{length}
use Rattle.bq_tree.specs.Trees.{in_order_behind}
use Rattle.bq_tree.proofs.walks.+get_at.Given as goal

abbrev pub decreases-get_at : goal.decreases-get_at
decreases-get_at l = length (in_order_behind l.link.now)
