use Rattle.bq_tree.proofs.BoundLemmas.{bounded_node}
use Rattle.bq_tree.proofs.summary.add.Goals as goal

pub add-requires-clause-bounds : goal.add-requires-clause-bounds
add-requires-clause-bounds c = bounded_node c.args.root.now c.requires.tree
