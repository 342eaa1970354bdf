use Rattle.bq_tree.specs.Trees.{height_behind}
use Rattle.bq_tree.proofs.edits.+take_from.Given as goal

abbrev pub decreases-take_from : goal.decreases-take_from
decreases-take_from g l = height_behind l.link.now
