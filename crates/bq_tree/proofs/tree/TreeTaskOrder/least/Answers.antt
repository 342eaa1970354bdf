use Rattle.std.proofs.Common.{List, Option, ap, ◌∙◌}
use Rattle.std.specs.Option.{option_map}
use Rattle.bq_disc.specs.Tasks.{Task, first_by, runs_before}
use Rattle.bq_disc.specs.Queues.{key_of}
use Rattle.bq_tree.specs.Trees.{in_order_behind}
use Rattle.bq_disc.proofs.RisingLemmas.{head-first_by}
use Rattle.bq_tree.proofs.tree.TreeTaskOrder.least.Goals as goal

pub returns-clause-key : goal.returns-clause-key
returns-clause-key g c =
    let first =
    head-first_by (in_order_behind c.self.inside.root) c.self.invariant.rising
    ∙ ap (λ (xs : List Task). first_by runs_before xs) c.self.view_is in
    c.self.invariant.leads ∙ ap (λ (o : Option Task). option_map key_of o) first
