use Rattle.std.proofs.Common.{length}
use Rattle.bq_tree.specs.Trees.{in_order_behind}
use Rattle.bq_tree.proofs.walks.+after.Given as goal

abbrev pub decreases-after : goal.decreases-after
decreases-after l = length (in_order_behind l.link.now)
