use Rattle.bq_tree.specs.Trees.{height_behind}
use Rattle.bq_tree.proofs.edits.+pop_least.Given as goal

abbrev pub decreases-pop_least : goal.decreases-pop_least
decreases-pop_least g l = height_behind l.link.now
