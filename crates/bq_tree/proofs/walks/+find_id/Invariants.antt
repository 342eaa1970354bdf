use Rattle.std.proofs.Common.{length}
use Rattle.bq_tree.specs.Trees.{in_order_behind}
use Rattle.bq_tree.proofs.walks.+find_id.Given as goal

abbrev pub decreases-find_id : goal.decreases-find_id
decreases-find_id l = length (in_order_behind l.link.now)
