use Rattle.bq_tree.specs.Trees.{height_behind}
use Rattle.bq_tree.proofs.edits.+insert_into.Given as goal

abbrev pub decreases-insert_into : goal.decreases-insert_into
decreases-insert_into g l = height_behind l.link.now
