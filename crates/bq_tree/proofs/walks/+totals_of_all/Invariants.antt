use Rattle.std.proofs.Common.{length}
use Rattle.bq_tree.specs.Trees.{in_order_behind}
use Rattle.bq_tree.proofs.walks.+totals_of_all.Given as goal

abbrev pub decreases-totals_of_all : goal.decreases-totals_of_all
decreases-totals_of_all l = length (in_order_behind l.link.now)
