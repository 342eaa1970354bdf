use Rattle.std.proofs.Common.{List, ap, ◌∙◌}
use Rattle.bq_disc.specs.Tasks.{Task, find_task}
use Rattle.bq_tree.specs.Trees.{in_order_behind}
use Rattle.bq_tree.proofs.SoundLemmas.{Finds-id}
use Rattle.bq_tree.proofs.tree.TreeTaskOrder.get.Goals as goal

pub returns-clause-task : goal.returns-clause-task
returns-clause-task g c =
    Finds-id c.time_of.result c.args.id (in_order_behind c.self.inside.root) _ c.self.invariant.distinct
    c.time_of.ensures c.get_at.ensures
    ∙ ap (λ (xs : List Task). find_task c.args.id xs) c.self.view_is
